-- TRAVERSAL from the right-hand door: where the depot does not lie to the right, the rightmost aisle is walked back as before; where it
-- does, the request's own store shows that the rules differ.
use Prim.Native.Nat.{ℕ, zero, suc, ◌+◌, ◌*◌, ◌%◌, ◌≤◌, ◌<◌}
use native.Mathlib.Omega.{arith}
use mathlib.Core.Path.{◌≡◌, refl, sym, ◌∙◌, ap, subst}
use mathlib.Core.Logic.{◌↔◌}
use mathlib.Core.List.{List, [], ◌∷◌}
use mathlib.Core.Bool.{cond}
use mathlib.Core.Option.{some}
use borrow.Author.Tests.{lt-ltb, le-ltb}
use lib.ListN.{length}
use Rattle.rules.specs.declared.Side.{Side}
use Rattle.rules.specs.declared.Side.TheVariants.{FrontSide}
use Rattle.rules.specs.declared.Layout.{Layout}
use Rattle.rules.specs.declared.Policy.{Policy}
use Rattle.rules.specs.declared.Policy.TheVariants.{Exact, Traversal}
use Rattle.rules.specs.declared.Action.TheVariants.{Bottom, Once}
use Rattle.rules.specs.declared.Passage.TheVariants.{P02, P11}
use Rattle.rules.specs.Store.{side_of, aisle_length, position, distance, edges_of}
use Rattle.rules.specs.Jobs.{Job, listed, holds_listed}
use Rattle.rules.specs.JobFile.{numeral, field, header, layout_text, layout_section_text, record_text, line_text, section_text, job_text}
use Rattle.rules.specs.JobFile.{is_digit, is_number, read_field, read_header, read_policy_as, read_policy, read_layout, read_posts}
use Rattle.rules.specs.JobFile.{read_record, read_line, read_section, read_layout_section, read_sections, read_job}
use Rattle.rules.specs.Plans.{Plan, WellFormed, Fits, action_at, passage_at, multiplicity, plan_passes, length_of, plan_length}
use Rattle.rules.specs.declared.End.{End}
use Rattle.rules.specs.declared.End.TheVariants.{Leftmost, Rightmost}
use Rattle.rules.specs.Policies.{entered_aisles, Entered, First, Last, WalkedFrom, EnteredAt, walk_back_end, WalkedBack}
use Rattle.rules.specs.Policies.{TraversalRule, OwnRule, PolicyRules, AllowedBy, Follows, Allowed}
use Rattle.rules.specs.Machine.{action_possible, action_step, passage_step, accepts}
use Rattle.rules.specs.Serving.{supply, serves, PlanServes}
use Rattle.rules.specs.BestPlan.{BestAmong, IsBest, best_plan}
use Rattle.rules.specs.Refusals.{work_limit}
use Rattle.rules.specs.Answers.{sheet_limit}
use Rattle.rules.specs.Examples.{stocked, ◌⨯◌, HasTour, own_job, door_at, door_cases}
use Rattle.rules.proofs.Admission.{admitted}
use Rattle.rules.proofs.Serving.{serves_test}
use Rattle.rules.proofs.Cases.{door_cases_hold}
use Rattle.tours.proofs.Machine.{accepts_allowed}
use Rattle.optimum.proofs.Best.{best_plan_lem, best_plan_only}
use Rattle.promises.specs.Contents.{Content, content_of}
use Rattle.promises.specs.Calls.{Shows}
use Rattle.promises.specs.Doors.{RuleBefore, AllowedBefore}
use Rattle.promises.proofs.Shown.{best, best_obeys, shown_best, job_shown}

-- where 2·d exceeds m + 1, the left end is the one
at_left : (z : Layout) → z.aisles + 1 < 2 * z.depot → walk_back_end z ≡ Leftmost
at_left z high = ap (λ b. cond b Leftmost Rightmost) (lt-ltb (z.aisles + 1) (2 * z.depot) high)

-- where it is at most m + 1, the right end
at_right : (z : Layout) → 2 * z.depot ≤ z.aisles + 1 → walk_back_end z ≡ Rightmost
at_right z low = ap (λ b. cond b Leftmost Rightmost) (le-ltb (z.aisles + 1) (2 * z.depot) low)

-- the aisle walked back is the entered one at that end
at_the_end : (z : Layout) {end : End} → walk_back_end z ≡ end → (plan : Plan) (j : ℕ) → WalkedBack z plan j ↔ EnteredAt end plan j
at_the_end z e plan j = (subst (λ (end : End). EnteredAt end plan j) e, subst (λ (end : End). EnteredAt end plan j) (sym e))

-- so it is the leftmost or the rightmost
pub walked_back_left : (z : Layout) → z.aisles + 1 < 2 * z.depot → (plan : Plan) (j : ℕ) → WalkedBack z plan j ↔ First plan j
walked_back_left z high = at_the_end z (at_left z high)

pub walked_back_right : (z : Layout) → 2 * z.depot ≤ z.aisles + 1 → (plan : Plan) (j : ℕ) → WalkedBack z plan j ↔ Last plan j
walked_back_right z low = at_the_end z (at_right z low)

-- where it is the rightmost, the two rules say the same
same_rule : (side : Side) (z : Layout) (plan : Plan) → ((j : ℕ) → WalkedBack z plan j ↔ Last plan j) → RuleBefore side plan ↔ TraversalRule side z plan
same_rule side z plan last = (
  λ rule. record {
    even = rule.even;
    odd_walked_back = λ n j w. rule.odd_last n j ((last j).0 w);
    odd_others = λ n j e not_back. rule.odd_others n j e (λ l. not_back ((last j).1 l));
  },
  λ rule. record {
    even = rule.even;
    odd_last = λ n j l. rule.odd_walked_back n j ((last j).1 l);
    odd_others = λ n j e not_last. rule.odd_others n j e (λ w. not_last ((last j).0 w));
  },
)

-- with another own rule that follows from the first, the rules follow
other_own : {A B : Type 0} {job : Job} {plan : Plan} → (A → B) → PolicyRules A job plan → PolicyRules B job plan
other_own f rules = record { actions = rules.actions; passages = rules.passages; void = rules.void; own = f rules.own }

-- what some rules allow, others that follow from them do
other_rules : {A B : Type 0} {job : Job} {plan : Plan} → (A → B) → AllowedBy A job plan → AllowedBy B job plan
other_rules f allowed = record { lawful = allowed.lawful; follows = f allowed.follows; shut = allowed.shut }

-- the best plan goes by what is allowed alone
other_allowed : {A B : Plan → Type 0} {job : Job} {plan : Plan} → ((p : Plan) → A p ↔ B p) → BestAmong A job plan → BestAmong B job plan
other_allowed {plan = plan} same best =
    record {
      allowed = (same plan).0 best.allowed;
      serving = best.serving;
      least = λ other a. best.least other ((same other).1 a);
      fewest = λ other a. best.fewest other ((same other).1 a);
      first = λ other a. best.first other ((same other).1 a);
    }

-- what a TRAVERSAL job asks is the rules with TRAVERSAL's own
follows_own : (job : Job) (plan : Plan) → job.policy ≡ Traversal → Follows job.policy job plan ↔ PolicyRules (TraversalRule (side_of job.layout) job.layout plan) job plan
follows_own job plan word = (
  λ f. other_own (subst (λ p. OwnRule p job plan) word) (subst (λ p. Follows p job plan) word f),
  λ r. subst (λ p. Follows p job plan) (sym word) (other_own (subst (λ p. OwnRule p job plan) (sym word)) r),
)

module _ (job : Job) (word : job.policy ≡ Traversal) (low : 2 * job.layout.depot ≤ job.layout.aisles + 1) where
  -- the same plans are allowed
  pub same_allowed : (plan : Plan) → AllowedBefore job plan ↔ Allowed job plan
  same_allowed plan =
      let rule = same_rule (side_of job.layout) job.layout plan (walked_back_right job.layout low plan) in
      let own = follows_own job plan word in
      (other_rules (λ r. own.1 (other_own rule.0 r)), other_rules (λ f. other_own rule.1 (own.0 f)))

  -- so the best is the same
  pub same_best : (plan : Plan) → BestAmong (AllowedBefore job) job plan ↔ IsBest job plan
  same_best plan = (other_allowed same_allowed, other_allowed (λ p. ((same_allowed p).1, (same_allowed p).0)))

  -- what a sheet shows is the best by the rule before, and no other plan is
  pub same_shown : (bytes sheet work : List ℕ) (c : Content) → Shows bytes sheet work job c
      → (plan : Plan) → BestAmong (AllowedBefore job) job plan ↔ (plan ≡ c.plan)
  unfolding content_of
  same_shown bytes sheet work c s plan =
      let (a, e) = shown_best bytes sheet work job c s in
      let printed : best_plan job ≡ c.plan = ap (λ (x : Content). x.plan) e in (
        λ f. best_plan_only job a plan ((same_best plan).0 f) ∙ printed,
        λ p. (same_best plan).1 (subst (IsBest job) (sym (p ∙ sym printed)) (best_plan_lem job a)),
      )

-- on the sheet of a job whose depot lies to the right the leftmost of an odd number of entered aisles is walked back
pub right_shown : (job : Job) → job.policy ≡ Traversal → job.layout.aisles + 1 < 2 * job.layout.depot
    → (bytes sheet work : List ℕ) (c : Content) → Shows bytes sheet work job c → entered_aisles c.plan % 2 ≡ 1
    → (j : ℕ) → (First c.plan j → WalkedFrom (side_of job.layout) (action_at c.plan j)) × (Entered c.plan j → (First c.plan j → ⊥) → action_at c.plan j ≡ Once)
right_shown job word high bytes sheet work c s n j =
    let (a, e) = shown_best bytes sheet work job c s in
    let allowed : Allowed job c.plan = subst (λ (x : Content). Allowed job x.plan) e (best_obeys job a).allowed in
    let rule = ((follows_own job c.plan word).0 allowed.follows).own in
    let back = walked_back_left job.layout high c.plan j in
    (λ f. rule.odd_walked_back n j (back.1 f), λ i other. rule.odd_others n j i (λ w. other (back.0 w)))

-- the tour that the request's own store had before: the rightmost aisle is walked back
abbrev pub last_walked_back : Plan
last_walked_back = record { actions = Once ∷ Once ∷ Bottom 1 ∷ []; passages = P11 ∷ P02 ∷ [] }

-- it is a plan of the store, wherever the depot is
of_store : (d : ℕ) (policy : Policy) → WellFormed (door_at d policy).layout last_walked_back
unfolding door_at own_job action_at
of_store d policy = record { aisles = refl; passages = refl; fits = fits }
  where
    fits : (j : ℕ) → Fits 5 (action_at last_walked_back j)
    fits zero = tt
    fits (suc zero) = tt
    fits (suc (suc zero)) = tt
    fits (suc (suc (suc zero))) = (omega arith, omega arith)
    fits (suc (suc (suc (suc j)))) = tt

-- with the depot at aisle 1 it is allowed
from_the_left : Allowed (door_at 1 Traversal) last_walked_back
unfolding door_at own_job stocked ◌⨯◌ listed holds_listed accepts action_possible action_step passage_step
from_the_left = (accepts_allowed (door_at 1 Traversal) last_walked_back (omega arith)).0 (of_store 1 Traversal, refl)

-- with the depot at aisle 3 it is lawful, and was allowed before: of the other rules none asks where the depot is
pub allowed_before : AllowedBefore (door_at 3 Traversal) last_walked_back
unfolding door_at own_job stocked ◌⨯◌ listed holds_listed accepts action_possible action_step passage_step
allowed_before =
    let rules = from_the_left.follows in
    let at-the-door = (door_at 1 Traversal).layout in
    record {
      lawful = ((accepts_allowed (door_at 3 Exact) last_walked_back (omega arith)).0 (of_store 3 Exact, refl)).lawful;
      follows = record {
        actions = rules.actions;
        passages = rules.passages;
        void = rules.void;
        own = (same_rule FrontSide at-the-door last_walked_back (walked_back_right at-the-door (omega arith) last_walked_back)).1 rules.own;
      };
      shut = from_the_left.shut;
    }

-- it serves the list and is 18 long; the tour is 26 now
pub moved : PlanServes (door_at 3 Traversal) last_walked_back × (plan_length (door_at 3 Traversal).layout last_walked_back ≡ 18) × HasTour (door_at 3 Traversal) 26
unfolding PlanServes door_cases door_at own_job stocked ◌⨯◌ supply serves plan_passes action_at passage_at multiplicity length_of plan_length edges_of distance aisle_length position
moved = ((serves_test (door_at 3 Traversal) (plan_passes last_walked_back)).0 refl, refl, door_cases_hold.0.0)

-- so the tour of now is not the best by the rule before
pub not_before : BestAmong (AllowedBefore (door_at 3 Traversal)) (door_at 3 Traversal) (best_plan (door_at 3 Traversal)) → ⊥
not_before b = omega (arith, b.least last_walked_back allowed_before moved.0, moved.1, moved.2.length)

-- the texts of the store with its depot in the middle and in the last aisle are read
doors_read : (read_job (job_text (door_at 2 Traversal)) ≡ some (door_at 2 Traversal)) × (read_job (job_text (door_at 3 Traversal)) ≡ some (door_at 3 Traversal))
unfolding ◌⨯◌ stocked own_job door_at job_text layout_section_text numeral field header layout_text record_text line_text section_text
    is_digit is_number read_field read_header read_policy_as read_policy read_layout read_posts read_record read_line read_section read_layout_section read_sections
    read_job
doors_read = (refl, refl)

-- so their sheets are shown
module _ (sheet work : List ℕ) (space : sheet_limit ≤ length sheet) (numbers : work_limit ≤ length work) where
  pub left_met : Shows (job_text (door_at 2 Traversal)) sheet work (door_at 2 Traversal) (best (door_at 2 Traversal))
  unfolding door_cases
  left_met = job_shown sheet work space numbers (door_at 2 Traversal) doors_read.0 ((admitted (door_at 2 Traversal)).0 door_cases_hold.1.0.0.admitted)

  -- with the depot in the last aisle three are entered
  pub right_met : Shows (job_text (door_at 3 Traversal)) sheet work (door_at 3 Traversal) (best (door_at 3 Traversal))
      × (entered_aisles (best (door_at 3 Traversal)).plan % 2 ≡ 1)
  unfolding door_cases content_of entered_aisles
  right_met = (
    job_shown sheet work space numbers (door_at 3 Traversal) doors_read.1 ((admitted (door_at 3 Traversal)).0 door_cases_hold.0.0.admitted),
    ap (λ p. entered_aisles p % 2) door_cases_hold.0.1,
  )
