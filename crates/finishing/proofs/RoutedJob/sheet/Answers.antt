-- `finishing::RoutedJob::sheet` meets its contract: the parts of the best plan make the job's sheet, and their size decides.
use native.Mathlib.Omega.{arith}
use mathlib.Core.Path.{refl, ap}
use lib.ListN.{length}
use Rattle.values.specs.FixedLists.{items}
use Rattle.finishing.proofs.Routes.{routed_sheet}
use Rattle.finishing.proofs.RoutedJob.sheet.Goals as goal

pub returns-then-space-size-clause-err : goal.returns-then-space-size-clause-err
returns-then-space-size-clause-err c =
    let j = c.args.self.now in
    let known = routed_sheet j.job j.routed j.known.0 j.known.2 (items c.args.tour.now.picks) (items c.args.tour.now.runs) c.requires in
    (refl, omega (arith, c.if-space-size.true, c.size.ensures.count, ap length known))

pub returns-clause-ok : goal.returns-clause-ok
returns-clause-ok c =
    let j = c.args.self.now in
    let known = routed_sheet j.job j.routed j.known.0 j.known.2 (items c.args.tour.now.picks) (items c.args.tour.now.runs) c.requires in
    (known, omega (arith, c.if-space-size.false, c.size.ensures.count))
