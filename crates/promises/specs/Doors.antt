-- Request #107, TRAVERSAL from the right-hand door: document 01's rule as it was before, kept for the statements that compare the two.
use Rattle.std.specs.Prelude.{ℕ, ◌%◌, ◌≡◌}
use Rattle.rules.specs.declared.Side.{Side}
use Rattle.rules.specs.declared.Action.TheVariants.{Once}
use Rattle.rules.specs.Store.{side_of}
use Rattle.rules.specs.Jobs.{Job}
use Rattle.rules.specs.Plans.{Plan, action_at}
use Rattle.rules.specs.Policies.{entered_aisles, Entered, Last, WalkedFrom, PolicyRules, AllowedBy}

-- TRAVERSAL before the request: with an even number of entered aisles all are ONCE; with an odd number
-- the rightmost entered is BOTTOM (TOP with the depot at the back, #109) and the others ONCE
pub record RuleBefore (side : Side) (plan : Plan) : Type 0 where
  pub even : entered_aisles plan % 2 ≡ 0 → (j : ℕ) → Entered plan j → action_at plan j ≡ Once
  pub odd_last : entered_aisles plan % 2 ≡ 1 → (j : ℕ) → Last plan j → WalkedFrom side (action_at plan j)
  pub odd_others : entered_aisles plan % 2 ≡ 1 → (j : ℕ) → Entered plan j → (Last plan j → ⊥) → action_at plan j ≡ Once

-- the plans that a TRAVERSAL job allowed before: all rules as they are, but that one as the policy's own
abbrev pub AllowedBefore : Job → Plan → Type 0
AllowedBefore job plan = AllowedBy (PolicyRules (RuleBefore (side_of job.layout) plan) job plan) job plan
