-- Document 01, "Sheet": the text of the sections T, A, C, P, W.
use Rattle.std.specs.Prelude.{ℕ, suc, ◌+◌, List, [], ◌∷◌, ◌++◌, cond, eqb}
use Rattle.rules.specs.declared.Policy.{Policy}
use Rattle.rules.specs.declared.Action.{Action}
use Rattle.rules.specs.declared.Action.TheVariants.{Void, Bottom, Top, Gap, Once, Twice}
use Rattle.rules.specs.declared.Passage.{Passage}
use Rattle.rules.specs.declared.Direction.{Direction}
use Rattle.rules.specs.declared.Direction.TheVariants.{Back, Front, Left, Right}
use Rattle.rules.specs.declared.Pick.{Pick}
use Rattle.rules.specs.declared.Run.{Run}
use Rattle.rules.specs.Jobs.{Job}
use Rattle.rules.specs.JobFile.{space, line_feed, field, header, policy_word, section_text}
use Rattle.rules.specs.Plans.{Plan, plan_length, back_treads, front_treads}
use Rattle.rules.specs.BestPlan.{best_plan}
use Rattle.rules.specs.Picks.{picks_of}
use Rattle.rules.specs.Walks.{Walk, letter_rank}
use Rattle.rules.specs.FirstWalk.{first_walk}

-- the section letters T, A, C, P, W
abbrev pub letter_t : ℕ
letter_t = 84  -- T

abbrev pub letter_a : ℕ
letter_a = 65  -- A

abbrev pub letter_c : ℕ
letter_c = 67  -- C

abbrev pub letter_p : ℕ
letter_p = 80  -- P

abbrev pub letter_w : ℕ
letter_w = 87  -- W

-- the line of the T section: length, policy word
unfoldable pub total_text : ℕ → Policy → List ℕ
total_text n policy = field space n ++ (policy_word policy ++ (line_feed ∷ []))

-- a line of the A section: VOID, BOTTOM i, TOP i, GAP h i, ONCE or TWICE
abbrev pub action_text : Action → List ℕ
action_text Void = 86 ∷ 79 ∷ 73 ∷ 68 ∷ line_feed ∷ []  -- VOID
action_text (Bottom i) = (66 ∷ 79 ∷ 84 ∷ 84 ∷ 79 ∷ 77 ∷ space ∷ []) ++ field line_feed i  -- BOTTOM
action_text (Top i) = (84 ∷ 79 ∷ 80 ∷ space ∷ []) ++ field line_feed i  -- TOP
action_text (Gap h i) = (71 ∷ 65 ∷ 80 ∷ space ∷ []) ++ (field space h ++ field line_feed i)  -- GAP
action_text Once = 79 ∷ 78 ∷ 67 ∷ 69 ∷ line_feed ∷ []  -- ONCE
action_text Twice = 84 ∷ 87 ∷ 73 ∷ 67 ∷ 69 ∷ line_feed ∷ []  -- TWICE

-- a line of the C section: the treads of the back, then of the front cross-aisle
unfoldable pub passage_text : Passage → List ℕ
passage_text p = (48 + back_treads p) ∷ (48 + front_treads p) ∷ line_feed ∷ []

-- a line of the P section: aisle, cell, article, quantity taken
unfoldable pub pick_text : Pick → List ℕ
pick_text x = field space x.aisle ++ (field space x.cell ++ (field space x.article ++ field line_feed x.quantity))

-- the letter of a step
abbrev pub letter_of : Direction → ℕ
letter_of Back = 66  -- B
letter_of Front = 70  -- F
letter_of Left = 76  -- L
letter_of Right = 82  -- R

-- equal letters run together: a step in front of the runs makes the first run grow, or starts a new one
abbrev pub add_step : Direction → List Run → List Run
add_step d [] = record { direction = d; steps = 1 } ∷ []
add_step d (r ∷ rs) =
    cond (eqb (letter_rank d) (letter_rank r.direction))
    (record { direction = d; steps = suc r.steps } ∷ rs)
    (record { direction = d; steps = 1 } ∷ r ∷ rs)

abbrev pub runs_of : Walk → List Run
runs_of [] = []
runs_of (d ∷ ds) = add_step d (runs_of ds)

-- a line of the W section: a letter and a step count
unfoldable pub run_text : Run → List ℕ
run_text r = letter_of r.direction ∷ space ∷ field line_feed r.steps

-- the sheet of a plan, with its picks and its walk
unfoldable pub sheet_of : Job → Plan → List ℕ
sheet_of job plan =
    (header letter_t 1 ++ total_text (plan_length job.layout plan) job.policy)
    ++ (section_text letter_a action_text plan.actions
    ++ (section_text letter_c passage_text plan.passages
    ++ (section_text letter_p pick_text (picks_of job plan)
    ++ section_text letter_w run_text (runs_of (first_walk job.layout plan)))))

-- the sheet of a job: that of its best plan
unfoldable pub sheet_text : Job → List ℕ
sheet_text job = sheet_of job (best_plan job)
