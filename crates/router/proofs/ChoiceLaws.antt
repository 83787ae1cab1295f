-- What is compared, and what is chosen, from the parts that the code computes.
use Prim.Native.Nat.{ℕ, ◌≤◌, ◌<◌}
use native.Mathlib.Omega.{arith}
use mathlib.Core.Path.{◌≡◌, sym, ◌∙◌, ap}
use mathlib.Core.List.{List}
use mathlib.Core.Option.{some}
use lib.ListN.{length, get_or, take}
use lib.Seq.{get_or-take}
use Rattle.rules.specs.declared.Action.{Action}
use Rattle.rules.specs.declared.Action.TheVariants.{Void}
use Rattle.rules.specs.declared.Passage.TheVariants.{P00}
use Rattle.rules.specs.BestPlan.{actions_of, passages_in_order}
use Rattle.aisles.specs.declared.layers.Aisle.{Aisle}
use Rattle.aisles.specs.Actions.{front_of, back_of}
use Rattle.aisles.specs.Layers.{left_code}
use Rattle.aisles.proofs.ActionRows.{ranked_fits, action_parts, step_small}
use Rattle.demand.specs.Maps.{entry}
use Rattle.table.proofs.PassageLaws.{tried_length}
use Rattle.router.specs.declared.choices.At.{At}
use Rattle.router.specs.declared.choices.Sought.{Sought}
use Rattle.router.specs.declared.choices.Taken.{Taken}
use Rattle.router.specs.declared.choices.Crossed.{Crossed}
use Rattle.router.specs.Choosing.{FirstRank, Attained, ActionAsked, StepAsked, ActionTaken, PassageTaken, step_to, cross_to, over_attains, on_attains, sought_behind}
use Rattle.router.proofs.FirstRanks.{rank_within}

-- the action of a rank
abbrev pub ranked : Aisle → ℕ → Action
ranked x k = get_or (actions_of x.layout.cells) k Void

-- a step over it may be asked
pub ranked_asked : (x : Aisle) (fronts backs : List ℕ) (g : Sought) (k : ℕ) (a : Action) → ActionAsked x fronts backs g
    → k < length (actions_of x.layout.cells) → a ≡ ranked x k → StepAsked x fronts backs g.at a
ranked_asked x fronts backs g k a asked h same = record {
  ready = asked.ready;
  state_below = asked.state_below;
  demand_below = asked.demand_below;
  fits = rw same (ranked_fits x.layout.cells k h);
}

module _ (x : Aisle) (fronts backs : List ℕ) (at : At) where
  -- an action leads to a state and a demand of the job
  pub step_lands : (a : Action) (to : At) → StepAsked x fronts backs at a → to ≡ step_to x fronts backs at a → (to.state < 9) × (to.demand < x.weight)
  unfolding left_code
  step_lands a to asked to_is =
      let cells = x.layout.cells in
      let parts = action_parts cells a asked.fits in
      let front = asked.ready.front_below (front_of cells a) at.demand parts.front_within asked.demand_below in
      let back = asked.ready.back_below (back_of cells a) (entry fronts (front_of cells a) at.demand) parts.back_low parts.back_high front in
      let state = ap (λ (t : At). t.state) to_is in
      let demand = ap (λ (t : At). t.demand) to_is in
      (omega (arith, state, step_small x a at.state), omega (arith, demand, back))

-- the action of the first rank is the first action
pub action_taken : (x : Aisle) (after after-spared fronts backs : List ℕ) (g : Sought) (k : ℕ) (r : Taken)
    → FirstRank (over_attains x after after-spared fronts backs g) (actions_of x.layout.cells) Void k
    → Attained (over_attains x after after-spared fronts backs g) (actions_of x.layout.cells)
    → r.action ≡ ranked x k → r.sought ≡ sought_behind x after fronts backs g r.action
    → ActionTaken x after after-spared fronts backs g r
action_taken x after after-spared fronts backs g k r rank found action-is sought_is =
    record { first = (rank_within _ Void (actions_of x.layout.cells) k rank found).1 ∙ ap some (sym action-is); leads = sought_is }

-- the passage of the first rank is the first passage
module _ (x : Aisle) (next next-spared : List ℕ) (a : Taken) (p : ℕ) (five : x.tried ≤ 5)
    (rank : FirstRank (on_attains x next next-spared a.sought) (take x.tried passages_in_order) P00 p)
    (found : Attained (on_attains x next next-spared a.sought) (take x.tried passages_in_order)) where
  pub passage_below : p < x.tried
  passage_below =
      omega (arith, (rank_within _ P00 (take x.tried passages_in_order) p rank found).0, tried_length x.tried five)

  pub passage_taken : (r : Crossed) → r.stage.action ≡ a.action → r.stage.passage ≡ get_or passages_in_order p P00
      → r.at ≡ cross_to x a.sought.at r.stage.passage → r.entered ≡ a.sought.entered → PassageTaken x next next-spared a r
  passage_taken r action-is passage-is at-is entered_is =
      let passage = get_or-take x.tried passages_in_order p P00 passage_below ∙ sym passage-is in
      record {
        behind = action-is;
        first = (rank_within _ P00 (take x.tried passages_in_order) p rank found).1 ∙ ap some passage;
        leads = at-is;
        marked = entered_is;
      }
