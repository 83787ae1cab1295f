-- Request #101, a ward with nothing to fetch: which calls it speaks of, and the sheet that they get.
use Rattle.std.specs.Prelude.{ℕ, ◌-◌, ◌≡◌, List, [], ◌++◌, replicate}
use Rattle.rules.specs.declared.Action.TheVariants.{Void}
use Rattle.rules.specs.declared.Passage.TheVariants.{P00}
use Rattle.rules.specs.declared.Refusal.{Refusal}
use Rattle.rules.specs.declared.Refusal.TheVariants.{ListBounds}
use Rattle.rules.specs.Lists.{concat_of}
use Rattle.rules.specs.Jobs.{Job}
use Rattle.rules.specs.JobFile.{header}
use Rattle.rules.specs.Sheet.{letter_t, letter_a, letter_c, letter_p, letter_w, total_text, action_text, passage_text}
use Rattle.rules.specs.FirstWalk.{WalkOf}
use Rattle.rules.specs.BestPlan.{empty_plan}
use Rattle.promises.specs.Causes.{JobFileOf, Cause}
use Rattle.promises.specs.Contents.{Content}

-- the bytes are the file of a job with no lines, and no other refusal applies: none but perhaps 5
pub record NothingToFetch (bytes sheet work : List ℕ) (job : Job) : Type 0 where
  pub file : JobFileOf bytes job
  pub no_line : job.lines ≡ []
  pub no_other : (r : Refusal) → (r ≡ ListBounds → ⊥) → Cause r bytes sheet work → ⊥

-- `T 1`, 0 and the policy word; `A m` with m lines VOID; `C m−1` with 00; `P 0`; `W 0`
unfoldable pub empty_sheet : Job → List ℕ
empty_sheet job =
    let m = job.layout.aisles in
    (header letter_t 1 ++ total_text 0 job.policy)
    ++ ((header letter_a m ++ concat_of action_text (replicate m Void))
    ++ ((header letter_c (m - 1) ++ concat_of passage_text (replicate (m - 1) P00))
    ++ (header letter_p 0 ++ header letter_w 0)))

-- what such a sheet says: length 0, the plan that treads nothing, no picks, and a walk of no steps,
-- which is closed and treads each edge as the plan says
pub record ShowsNothing (job : Job) (c : Content) : Type 0 where
  pub length : c.length ≡ 0
  pub plan : c.plan ≡ empty_plan job.layout
  pub no_picks : c.picks ≡ []
  pub no_step : c.walk ≡ []
  pub walked : WalkOf job.layout c.plan c.walk
