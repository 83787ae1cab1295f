-- What a sheet says: the length, the policy, the plan, the picks and the walk; and the text that says it.
use Rattle.std.specs.Prelude.{ℕ, List, ◌++◌, Bool, ◌&&◌, ◌||◌, cond, ltb, eqb}
use Rattle.rules.specs.declared.Policy.{Policy}
use Rattle.rules.specs.declared.Pick.{Pick}
use Rattle.rules.specs.Lists.{sum_of}
use Rattle.rules.specs.Jobs.{Job}
use Rattle.rules.specs.JobFile.{header, section_text}
use Rattle.rules.specs.Plans.{Plan, plan_length}
use Rattle.rules.specs.Picks.{picks_of}
use Rattle.rules.specs.Walks.{Walk}
use Rattle.rules.specs.FirstWalk.{first_walk}
use Rattle.rules.specs.Sheet.{letter_t, letter_a, letter_c, letter_p, letter_w, total_text, action_text, passage_text, pick_text, runs_of, run_text}

pub record Content : Type 0 where
  pub length : ℕ
  pub policy : Policy
  pub plan : Plan
  pub picks : List Pick
  pub walk : Walk

-- the sections T, A, C, P, W
unfoldable pub content_text : Content → List ℕ
content_text c =
    (header letter_t 1 ++ total_text c.length c.policy)
    ++ (section_text letter_a action_text c.plan.actions
    ++ (section_text letter_c passage_text c.plan.passages
    ++ (section_text letter_p pick_text c.picks
    ++ section_text letter_w run_text (runs_of c.walk))))

-- what the sheet of a plan says
unfoldable pub content_of : Job → Plan → Content
content_of job plan =
    record {
      length = plan_length job.layout plan;
      policy = job.policy;
      plan = plan;
      picks = picks_of job plan;
      walk = first_walk job.layout plan;
    }

-- how much is picked by the picks of which a test holds
abbrev pub picked_by : (Pick → Bool) → List Pick → ℕ
picked_by t picks = sum_of (λ (x : Pick). cond (t x) x.quantity 0) picks

-- how much of an article is picked
unfoldable pub picked : List Pick → ℕ → ℕ
picked picks a = picked_by (λ (x : Pick). eqb x.article a) picks

-- the test whether a cell stands before another
unfoldable pub cell_before : (i b j c : ℕ) → Bool
cell_before i b j c = ltb i j || (eqb i j && ltb b c)

-- how much is picked from cell c of aisle j
unfoldable pub picked_from : List Pick → ℕ → ℕ → ℕ
picked_from picks j c = picked_by (λ (x : Pick). eqb x.aisle j && eqb x.cell c) picks

-- how much of an article is picked from the cells before it
unfoldable pub picked_before : List Pick → ℕ → ℕ → ℕ → ℕ
picked_before picks a j c = picked_by (λ (x : Pick). eqb x.article a && cell_before x.aisle x.cell j c) picks
