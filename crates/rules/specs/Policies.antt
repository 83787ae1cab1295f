-- Document 01, "Policies", request #104, LARGEST, request #106, shut aisles, request #107, TRAVERSAL from the right-hand door, and request #109,
-- the depot at the back: the plans that a job's policy allows.
use Rattle.std.specs.Prelude.{ℕ, suc, ◌+◌, ◌*◌, ◌-◌, ◌%◌, ◌≤◌, ◌<◌, ◌≡◌, Bool, true, false, cond, ◌&&◌, ltb, leb, eqb}
use mathlib.Core.List.{List, [], ◌∷◌, ◌++◌, Memᴰ}
use Rattle.rules.specs.declared.Layout.{Layout}
use Rattle.rules.specs.declared.End.{End}
use Rattle.rules.specs.declared.End.TheVariants.{Leftmost, Rightmost}
use Rattle.rules.specs.declared.Policy.{Policy}
use Rattle.rules.specs.declared.Policy.TheVariants.{Exact, Return, Traversal, Midpoint, Composite, Largest}
use Rattle.rules.specs.declared.Action.{Action}
use Rattle.rules.specs.declared.Action.TheVariants.{Void, Bottom, Top, Gap, Once, Twice}
use Rattle.rules.specs.declared.Kind.{Kind}
use Rattle.rules.specs.declared.Kind.TheVariants.{Void as VOID, Bottom as BOTTOM, Top as TOP, Gap as GAP, Once as ONCE, Twice as TWICE}
use Rattle.rules.specs.declared.Passage.{Passage}
use Rattle.rules.specs.declared.Passage.TheVariants.{P00, P02, P11, P20, P22}
use Rattle.rules.specs.Lists.{from, sum_of, any_of, select}
use Rattle.rules.specs.declared.Side.{Side}
use Rattle.rules.specs.declared.Side.TheVariants.{FrontSide, BackSide}
use Rattle.rules.specs.Store.{side_of, along, aisle_length, position, back_height, distance}
use Rattle.rules.specs.Hours.{Hours, is_open}
use Rattle.rules.specs.Jobs.{Job, holds_listed, cell_holds_listed}
use Rattle.rules.specs.Plans.{Plan, kind_of, kind_rank, action_at, passage_at, aisle_treads, back_treads, front_treads, entered}
use Rattle.rules.specs.Lawful.{LawfulFor}

-- BOTTOM, where a policy names it without TOP: with the depot at the back it reads TOP
abbrev pub side_kind : Side → Kind
side_kind FrontSide = BOTTOM
side_kind BackSide = TOP

-- 02, where a policy names it without 20: with the depot at the back it reads 20
abbrev pub side_passage : Side → Passage
side_passage FrontSide = P02
side_passage BackSide = P20

-- the kinds of actions that a policy names, with the depot at the given side
abbrev pub kinds_named : Side → Policy → List Kind
kinds_named side Exact = VOID ∷ BOTTOM ∷ TOP ∷ GAP ∷ ONCE ∷ TWICE ∷ []
kinds_named side Return = VOID ∷ side_kind side ∷ []
kinds_named side Traversal = VOID ∷ side_kind side ∷ ONCE ∷ []
kinds_named side Midpoint = VOID ∷ BOTTOM ∷ TOP ∷ GAP ∷ ONCE ∷ []
kinds_named side Composite = VOID ∷ BOTTOM ∷ TOP ∷ ONCE ∷ []
kinds_named side Largest = VOID ∷ BOTTOM ∷ TOP ∷ GAP ∷ ONCE ∷ []

-- the passages that a policy names, with the depot at the given side
abbrev pub passages_named : Side → Policy → List Passage
passages_named side Exact = P00 ∷ P02 ∷ P11 ∷ P20 ∷ P22 ∷ []
passages_named side Return = P00 ∷ side_passage side ∷ []
passages_named side Traversal = P00 ∷ side_passage side ∷ P11 ∷ []
passages_named side Midpoint = P00 ∷ side_passage side ∷ P11 ∷ []
passages_named side Composite = P00 ∷ P02 ∷ P11 ∷ P20 ∷ []
passages_named side Largest = P00 ∷ side_passage side ∷ P11 ∷ []

-- the action is of a kind that the policy names
abbrev pub action_named : Side → Policy → Action → Bool
action_named side policy a = any_of (λ k. eqb (kind_rank k) (kind_rank (kind_of a))) (kinds_named side policy)

-- the passage is one that the policy names: it has the same two digits
abbrev pub passage_named : Side → Policy → Passage → Bool
passage_named side policy p =
    any_of (λ q. eqb (back_treads q) (back_treads p) && eqb (front_treads q) (front_treads p)) (passages_named side policy)

-- the number of entered aisles
unfoldable pub entered_aisles : Plan → ℕ
entered_aisles plan = sum_of (λ a. cond (entered a) 1 0) plan.actions

-- an entered aisle
unfoldable pub Entered : Plan → ℕ → Type 0
Entered plan j = entered (action_at plan j) ≡ true

-- the first ("leftmost") entered aisle: none before it is entered
unfoldable pub First : Plan → ℕ → Type 0
First plan j = Entered plan j × ((i : ℕ) → i < j → Entered plan i → ⊥)

-- the last ("rightmost") entered aisle: none behind it is entered
unfoldable pub Last : Plan → ℕ → Type 0
Last plan j = Entered plan j × ((i : ℕ) → j < i → Entered plan i → ⊥)

-- BOTTOM, of any cell
unfoldable pub IsBottom : Action → Type 0
IsBottom a = (i : ℕ) × (a ≡ Bottom i)

-- TOP, of any cell
unfoldable pub IsTop : Action → Type 0
IsTop a = (i : ℕ) × (a ≡ Top i)

-- BOTTOM; with the depot at the back TOP: walked from the depot's side and back to it
abbrev pub WalkedFrom : Side → Action → Type 0
WalkedFrom FrontSide a = IsBottom a
WalkedFrom BackSide a = IsTop a

-- the entered aisle at an end
abbrev pub EnteredAt : End → Plan → ℕ → Type 0
EnteredAt Leftmost plan j = First plan j
EnteredAt Rightmost plan j = Last plan j

-- the end at which TRAVERSAL walks an aisle back: the left one where 2·d exceeds m + 1 (the depot lies to the right), otherwise the right one
abbrev pub walk_back_end : Layout → End
walk_back_end z = cond (ltb (z.aisles + 1) (2 * z.depot)) Leftmost Rightmost

-- the aisle walked back under TRAVERSAL
abbrev pub WalkedBack : Layout → Plan → ℕ → Type 0
WalkedBack z plan j = EnteredAt (walk_back_end z) plan j

-- TRAVERSAL: with an even number of entered aisles all are ONCE; with an odd number the aisle walked back is BOTTOM (TOP with the depot at
-- the back) and the others ONCE
pub record TraversalRule (side : Side) (z : Layout) (plan : Plan) : Type 0 where
  pub even : entered_aisles plan % 2 ≡ 0 → (j : ℕ) → Entered plan j → action_at plan j ≡ Once
  pub odd_walked_back : entered_aisles plan % 2 ≡ 1 → (j : ℕ) → WalkedBack z plan j → WalkedFrom side (action_at plan j)
  pub odd_others : entered_aisles plan % 2 ≡ 1 → (j : ℕ) → Entered plan j → (WalkedBack z plan j → ⊥) → action_at plan j ≡ Once

-- the cell is no nearer to the back crossing than to the front one
unfoldable pub in_front_half : Layout → ℕ → Bool
in_front_half z i = leb (2 * position z i) (aisle_length z)

-- the cell is no nearer to the front crossing than to the back one; a cell midway is in both halves
unfoldable pub in_back_half : Layout → ℕ → Bool
in_back_half z i = leb (aisle_length z) (2 * position z i)

-- MIDPOINT between the first and the last entered aisle: VOID, BOTTOM, TOP or GAP,
-- the front part in the front half, the back part in the back half
abbrev pub halved : Layout → Action → Bool
halved z Void = true
halved z (Bottom i) = in_front_half z i
halved z (Top i) = in_back_half z i
halved z (Gap h i) = in_front_half z h && in_back_half z i
halved z Once = false
halved z Twice = false

-- a trodden part of an aisle: from the front or from the back crossing to the cell of its turn, and back
pub data Part : Type 0 where
  from_front : ℕ → Part
  from_back : ℕ → Part

-- the trodden parts of an action; ONCE and TWICE make no turn
abbrev pub parts_of : Action → List Part
parts_of Void = []
parts_of (Bottom i) = from_front i ∷ []
parts_of (Top i) = from_back i ∷ []
parts_of (Gap h i) = from_front h ∷ from_back i ∷ []
parts_of Once = []
parts_of Twice = []

-- the cell at which a part turns
abbrev pub turn_of : Part → ℕ
turn_of (from_front i) = i
turn_of (from_back i) = i

-- whether a part passes a cell
abbrev pub part_passes : Part → ℕ → Bool
part_passes (from_front i) c = leb c i
part_passes (from_back i) c = leb i c

-- the cells with listed articles that a part passes in aisle j, upwards
unfoldable pub listed_cells : Job → ℕ → Part → List ℕ
listed_cells job j part = select (λ c. part_passes part c && cell_holds_listed job j c) (from 1 job.layout.cells)

-- the stops on a part, as heights, upwards: the passed cells with listed articles and the crossing from which it is entered
abbrev pub stops_on : Job → ℕ → Part → List ℕ
stops_on job j (from_front i) = 0 ∷ listed_cells job j (from_front i)
stops_on job j (from_back i) = listed_cells job j (from_back i) ++ (back_height job.layout ∷ [])

-- neighbouring stops: y comes right behind x in the list
pub data Neighbours : List ℕ → ℕ → ℕ → Type 0 where
  next : {x y : ℕ} {stops : List ℕ} → Neighbours (x ∷ y ∷ stops) x y
  later : {w x y : ℕ} {stops : List ℕ} → Neighbours stops x y → Neighbours (w ∷ stops) x y

-- the length of the untrodden part of aisle j: of its edges that the action does not tread
unfoldable pub untrodden : Layout → ℕ → Action → ℕ
untrodden z j a = sum_of (λ k. cond (eqb (aisle_treads a k) 0) (distance z (along j k)) 0) (from 0 (suc z.cells))

-- whether an action goes through its aisle: ONCE and TWICE do
abbrev pub through : Action → Bool
through Void = false
through (Bottom i) = false
through (Top i) = false
through (Gap h i) = false
through Once = true
through Twice = true

-- LARGEST between the first and the last entered aisle: VOID, BOTTOM, TOP or GAP; a turn only at a cell that holds a listed article;
-- the untrodden part at least as long as every distance between neighbouring stops x and y on the trodden parts, of which y lies further
-- from the front
pub record LargestGap (job : Job) (j : ℕ) (a : Action) : Type 0 where
  pub not_through : through a ≡ false
  pub turns : (part : Part) → Memᴰ part (parts_of a) → cell_holds_listed job j (turn_of part) ≡ true
  pub longest : (part : Part) → Memᴰ part (parts_of a) → (x y : ℕ) → Neighbours (stops_on job j part) x y
      → position job.layout y - position job.layout x ≤ untrodden job.layout j a

-- MIDPOINT and LARGEST: a single entered aisle is BOTTOM (TOP with the depot at the back); otherwise the first and the last entered are ONCE
-- and those between keep to the policy's rule for them
pub record MidpointRule (side : Side) (Between : ℕ → Action → Type 0) (plan : Plan) : Type 0 where
  pub single : entered_aisles plan ≡ 1 → (j : ℕ) → Entered plan j → WalkedFrom side (action_at plan j)
  pub first : (entered_aisles plan ≡ 1 → ⊥) → (j : ℕ) → First plan j → action_at plan j ≡ Once
  pub last : (entered_aisles plan ≡ 1 → ⊥) → (j : ℕ) → Last plan j → action_at plan j ≡ Once
  pub between : (entered_aisles plan ≡ 1 → ⊥) → (i j k : ℕ) → First plan i → Last plan k → i < j → j < k → Between j (action_at plan j)

-- what TRAVERSAL, MIDPOINT and LARGEST ask beyond their actions and passages
abbrev pub OwnRule : Policy → Job → Plan → Type 0
OwnRule Exact job plan = Unit {0}
OwnRule Return job plan = Unit {0}
OwnRule Traversal job plan = TraversalRule (side_of job.layout) job.layout plan
OwnRule Midpoint job plan = MidpointRule (side_of job.layout) (λ j a. halved job.layout a ≡ true) plan
OwnRule Composite job plan = Unit {0}
OwnRule Largest job plan = MidpointRule (side_of job.layout) (LargestGap job) plan

-- the rules of a policy: its actions and passages only, an aisle holding no article of the list is VOID, and its own rule
pub record PolicyRules (Own : Type 0) (job : Job) (plan : Plan) : Type 0 where
  pub actions : (j : ℕ) → action_named (side_of job.layout) job.policy (action_at plan j) ≡ true
  pub passages : (j : ℕ) → passage_named (side_of job.layout) job.policy (passage_at plan j) ≡ true
  pub void : (j : ℕ) → holds_listed job j ≡ false → action_at plan j ≡ Void
  pub own : Own

-- EXACT adds nothing; the other policies add their rules
abbrev pub Follows : Policy → Job → Plan → Type 0
Follows Exact job plan = Unit {0}
Follows Return job plan = PolicyRules (OwnRule job.policy job plan) job plan
Follows Traversal job plan = PolicyRules (OwnRule job.policy job plan) job plan
Follows Midpoint job plan = PolicyRules (OwnRule job.policy job plan) job plan
Follows Composite job plan = PolicyRules (OwnRule job.policy job plan) job plan
Follows Largest job plan = PolicyRules (OwnRule job.policy job plan) job plan

-- a shut aisle is VOID
unfoldable pub ShutVoid : Hours → Plan → Type 0
ShutVoid hours plan = (j : ℕ) → is_open hours j ≡ false → action_at plan j ≡ Void

-- a plan that is lawful for the job's list, follows these rules and keeps out of shut aisles
pub record AllowedBy (Rules : Type 0) (job : Job) (plan : Plan) : Type 0 where
  pub lawful : LawfulFor job.layout job.lines plan
  pub follows : Rules
  pub shut : ShutVoid job.hours plan

-- the plans that the job's policy allows
abbrev pub Allowed : Job → Plan → Type 0
Allowed job plan = AllowedBy (Follows job.policy job plan) job plan
