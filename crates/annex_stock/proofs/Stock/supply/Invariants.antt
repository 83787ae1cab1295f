-- `annex_stock::Stock::supply` meets its contract. The loop's invariant: the sum is what the records so far give.
use Rattle.std.proofs.Common.{◌≡◌, ◌≤◌, ◌*◌}
use Rattle.rules.specs.Plans.{plan_passes}
use Rattle.values.specs.Values.{plan_of}
use Rattle.annex_stock.proofs.Supplies.{given_to}
use Rattle.annex_stock.proofs.Stock.supply.Given as goal

abbrev pub invariant-loop-held : goal.invariant-loop-held
invariant-loop-held l = (l.sum ≤ 255 * l.held-index) × (l.sum ≡ given_to l.fn.self (plan_passes (plan_of l.fn.plan)) l.fn.article l.held-index)
