-- `walks::walker::Walker::reaches_without` meets its contract: the last tread is taken off, and put back after the test.
use Rattle.std.proofs.Common.{◌≡◌, ◌∙◌, sym, ap, set}
use lib.Seq.{set-set, set-get_or}
use Rattle.walks.specs.declared.walker.Walker.{Walker}
use Rattle.walks.proofs.walker.Walker.reaches_without.Goals as goal

pub returns-clause-unchanged : goal.returns-clause-unchanged
returns-clause-unchanged c =
    let self : Walker = c.args.self.now in
    let slot = c.args.slot in
    let back : set (set self.left slot 0) slot 1 ≡ self.left = set-set self.left slot 0 1 ∙ ap (set self.left slot) (sym c.requires.edge) ∙ set-get_or self.left slot 0 in
    λ i. record { layout = self.layout; left = back i; at = self.at }
