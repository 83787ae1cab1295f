-- The picks of a plan that serves the list meet each line exactly.
use Prim.Native.Nat.{ℕ, ◌+◌, ◌-◌, min, ◌≤◌}
use native.Mathlib.Omega.{arith}
use mathlib.Core.Path.{◌≡◌, refl, sym, ◌∙◌, ap, ap₂}
use mathlib.Core.List.{List, [], ◌∷◌, map, Memᴰ}
use mathlib.Core.Bool.{Bool, true, false, cond, ◌&&◌, and-eq-true_iff}
use mathlib.Core.Option.{none, some}
use borrow.Author.Tests.{eqb-true, eq-eqb, ne_eqb, ltb-false, eqb-false}
use lib.Dec.{eqb, ltb}
use Rattle.rules.specs.declared.Layout.{Layout}
use Rattle.rules.specs.declared.StockRecord.{StockRecord}
use Rattle.rules.specs.declared.OrderLine.{OrderLine}
use Rattle.rules.specs.declared.Pick.{Pick}
use Rattle.rules.specs.Lists.{from, sum_of, Sorted}
use Rattle.rules.specs.Store.{Point}
use Rattle.rules.specs.Jobs.{Job, open_stock}
use Rattle.rules.specs.Plans.{Plan, plan_passes}
use Rattle.rules.specs.Serving.{supply, Serves, PlanServes}
use Rattle.rules.specs.Refusals.{Admitted, RecordWithin}
use Rattle.rules.specs.Picks.{cells_of, lack_of, less_of, record_at, taken, add_pick, picks_from, found, passed_records, picks_of}
use Rattle.rules.proofs.Lists.{sum_agree, sum_plus, sum_map, sum_concat, sorted_map, sum_none}
use Rattle.rules.proofs.Admission.{stock_within, open_in_stock, open_once, articles_once}
use Rattle.closedwalks.proofs.Sums.{sum_from}
use Rattle.promises.specs.Contents.{picked_by, picked}

-- no two lines of one article
abbrev pub Apart : List OrderLine → Type 0
Apart = Sorted (λ (k l : OrderLine). k.article ≡ l.article → ⊥)

lack_none : (a : ℕ) (ls : List OrderLine) → ((l : OrderLine) → Memᴰ l ls → a ≡ l.article → ⊥) → lack_of ls a ≡ 0
unfolding lack_of
lack_none a [] h = refl
lack_none a (l ∷ ls) h =
    rw (ne_eqb l.article a (λ e. h l (Memᴰ.head refl) (sym e))) (omega (arith, lack_none a ls (λ k m. h k (Memᴰ.tail m))))

-- what is lacking is on a line
pub lack_listed : (a : ℕ) (ls : List OrderLine) → 1 ≤ lack_of ls a → (l : OrderLine) × Memᴰ l ls × (a ≡ l.article)
unfolding lack_of
lack_listed a [] h = absurd (omega arith)
lack_listed a (l ∷ ls) h = go (eqb l.article a) refl h (lack_listed a ls)
  where
    go : (b : Bool) → eqb l.article a ≡ b → 1 ≤ cond b l.quantity 0 + lack_of ls a → (1 ≤ lack_of ls a → (k : OrderLine) × Memᴰ k ls × (a ≡ k.article)) → (k : OrderLine) × Memᴰ k (l ∷ ls) × (a ≡ k.article)
    go true e h rest = (l, Memᴰ.head refl, sym (eqb-true l.article a e))
    go false e h rest = let t = rest (omega arith) in (t.0, Memᴰ.tail t.1, t.2)

-- a line's own article lacks what the line asks for
pub lack_line : (ls : List OrderLine) → Apart ls → (l : OrderLine) → Memᴰ l ls → lack_of ls l.article ≡ l.quantity
unfolding lack_of
lack_line ls s l m = go l ls s m
  where
    go : (l : OrderLine) (ls : List OrderLine) → Apart ls → Memᴰ l ls → lack_of ls l.article ≡ l.quantity
    go l ls s (Memᴰ.head {x = k} {xs = ks} e) =
        let same : k.article ≡ l.article = ap (λ (x : OrderLine). x.article) (sym e) in
        rw (eq-eqb k.article l.article same)
        (omega (arith, ap (λ (x : OrderLine). x.quantity) e, lack_none l.article ks (λ x m i. s.0 x m (same ∙ i))))
    go l ls s (Memᴰ.tail {x = k} {xs = ks} m) = rw (ne_eqb k.article l.article (s.0 l m)) (omega (arith, go l ks s.1 m))

-- what is lacking after n of an article are taken
pub lack_less : (b n a : ℕ) (ls : List OrderLine) → Apart ls → lack_of (less_of b n ls) a ≡ cond (eqb b a) (lack_of ls a - n) (lack_of ls a)
unfolding lack_of less_of
lack_less b n a [] s = go (eqb b a)
  where
    go : (w : Bool) → 0 ≡ cond w (0 - n) 0
    go true = omega arith
    go false = refl
lack_less b n a (l ∷ ls) s = go (eqb l.article a) refl (eqb b a) refl (lack_less b n a ls s.1)
  where
    go : (x : Bool) → eqb l.article a ≡ x → (w : Bool) → eqb b a ≡ w → lack_of (less_of b n ls) a ≡ cond w (lack_of ls a - n) (lack_of ls a)
        → cond x (cond (eqb l.article b) (l.quantity - n) l.quantity) 0 + lack_of (less_of b n ls) a ≡ cond w (cond x l.quantity 0 + lack_of ls a - n) (cond x l.quantity 0 + lack_of ls a)
    go true e true f h =
        let p = eqb-true l.article a e in
        let q = eqb-true b a f in
        rw (eq-eqb l.article b (p ∙ sym q)) (omega (arith, lack_none a ls (λ k m i. s.0 k m (p ∙ i))))
    go true e false f h = rw (ne_eqb l.article b (λ i. eqb-false b a f (sym i ∙ eqb-true l.article a e))) (omega arith)
    go false e true f h = omega arith
    go false e false f h = omega arith

pub less_apart : (b n : ℕ) (ls : List OrderLine) → Apart ls → Apart (less_of b n ls)
unfolding less_of
less_apart b n ls s = sorted_map _ _ _ ls (λ k l h. h) s

-- the stock of an article in records
abbrev stock_in : List StockRecord → ℕ → ℕ
stock_in rs a = sum_of (λ (r : StockRecord). cond (eqb r.article a) r.quantity 0) rs

-- a pick of n from a record
abbrev pub pick_of : StockRecord → ℕ → Pick
pick_of r n = record { aisle = r.aisle; cell = r.cell; article = r.article; quantity = n }

pub add_pick_lem : (t : Pick → Bool) (r : StockRecord) (n : ℕ) (picks : List Pick) → picked_by t (add_pick r n picks) ≡ cond (t (pick_of r n)) n 0 + picked_by t picks
add_pick_lem t r n picks = go (ltb 0 n) refl
  where
    nothing_of : (c : Bool) → n ≤ 0 → cond c n 0 ≡ 0
    nothing_of true h = omega arith
    nothing_of false h = refl

    go : (b : Bool) → ltb 0 n ≡ b → picked_by t (cond b (pick_of r n ∷ picks) picks) ≡ cond (t (pick_of r n)) n 0 + picked_by t picks
    go true e = refl
    go false e = omega (arith, nothing_of (t (pick_of r n)) (ltb-false 0 n e))

pub picked_member : (t : Pick → Bool) (x : Pick) (picks : List Pick) → Memᴰ x picks → t x ≡ true → x.quantity ≤ picked_by t picks
picked_member t x picks (Memᴰ.head {x = y} {xs = ys} e) h = let same = sym (ap t e) ∙ h in rw (e, same) (omega arith)
picked_member t x picks (Memᴰ.tail {x = y} {xs = ys} m) h = omega (arith, picked_member t x ys m h)

-- what is picked of an article: what the lines lack, as far as the records have it
picked_least : (ls : List OrderLine) (rs : List StockRecord) (a : ℕ) → Apart ls → picked (picks_from ls rs) a ≡ min (lack_of ls a) (stock_in rs a)
unfolding picked taken
picked_least ls [] a s = omega arith
picked_least ls (r ∷ rs) a s =
    add_pick_lem (λ x. eqb x.article a) r n (picks_from (less_of r.article n ls) rs)
    ∙ go (eqb r.article a) refl (picked_least (less_of r.article n ls) rs a (less_apart r.article n ls s)) (lack_less r.article n a ls s)
  where
    n : ℕ
    n = taken ls r

    go : (b : Bool) → eqb r.article a ≡ b → picked (picks_from (less_of r.article n ls) rs) a ≡ min (lack_of (less_of r.article n ls) a) (stock_in rs a)
        → lack_of (less_of r.article n ls) a ≡ cond b (lack_of ls a - n) (lack_of ls a)
        → cond b n 0 + picked (picks_from (less_of r.article n ls) rs) a ≡ min (lack_of ls a) (cond b r.quantity 0 + stock_in rs a)
    go true e h l = let same = ap (lack_of ls) (eqb-true r.article a e) in omega arith
    go false e h l = omega arith

-- a record is the one of a cell
abbrev is_at : StockRecord → Point → Bool
is_at r x = eqb r.aisle x.aisle && eqb r.cell x.height

-- a sum over the cells to which a record's cell alone adds
at_its_cell : (z : Layout) (passes : ℕ → ℕ → Bool) (r : StockRecord) (v : ℕ) → RecordWithin z r
    → sum_of (λ (x : Point). cond (is_at r x && passes x.aisle x.height) v 0) (cells_of z) ≡ cond (passes r.aisle r.cell) v 0
unfolding cells_of
at_its_cell z passes r v w =
    sum_concat (λ (x : Point). cond (is_at r x && passes x.aisle x.height) v 0) (λ j. map (λ c. record { aisle = j; height = c }) (from 1 z.cells)) (from 1 z.aisles)
    ∙ sum_agree _ _ (from 1 z.aisles) (λ j m. sum_map _ _ (from 1 z.cells))
    ∙ sum_from (λ j. sum_of (there j) (from 1 z.cells)) r.aisle 1 z.aisles w.aisle.0 (let h = w.aisle.1 in omega arith) (λ j n. sum_none (there j) (from 1 z.cells) (λ c. rw (ne_eqb r.aisle j (λ e. n (sym e)))))
    ∙ sum_from (there r.aisle) r.cell 1 z.cells w.cell.0 (let h = w.cell.1 in omega arith) (λ c n. rw (eq-eqb r.aisle r.aisle refl, ne_eqb r.cell c (λ e. n (sym e))))
    ∙ rw (eq-eqb r.aisle r.aisle refl, eq-eqb r.cell r.cell refl)
  where
    there : ℕ → ℕ → ℕ
    there j c = cond ((eqb r.aisle j && eqb r.cell c) && passes j c) v 0

-- no two records of one cell
abbrev OnePerCell : List StockRecord → Type 0
OnePerCell = Sorted (λ (r s : StockRecord). (r.aisle ≡ s.aisle) × (r.cell ≡ s.cell) → ⊥)

no_record : (x : Point) (rs : List StockRecord) → ((r : StockRecord) → Memᴰ r rs → is_at r x ≡ true → ⊥) → record_at rs x ≡ none
unfolding record_at
no_record x [] h = refl
no_record x (r ∷ rs) h = go (is_at r x) refl (no_record x rs (λ s m. h s (Memᴰ.tail m)))
  where
    go : (b : Bool) → is_at r x ≡ b → record_at rs x ≡ none → cond b (some r) (record_at rs x) ≡ none
    go true e n = absurd (h r (Memᴰ.head refl) e)
    go false e n = n

module _ (z : Layout) (passes : ℕ → ℕ → Bool) (f : StockRecord → ℕ) where
  -- what the record of a cell adds, if the cell is passed
  abbrev added : List StockRecord → Point → ℕ
  added rs x = sum_of f (found (passes x.aisle x.height) (record_at rs x))

  added_more : (r : StockRecord) (rs : List StockRecord) → ((s : StockRecord) → Memᴰ s rs → (r.aisle ≡ s.aisle) × (r.cell ≡ s.cell) → ⊥)
      → (x : Point) → added (r ∷ rs) x ≡ cond (is_at r x && passes x.aisle x.height) (f r) 0 + added rs x
  unfolding record_at
  added_more r rs apart x = go (is_at r x) refl (passes x.aisle x.height)
    where
      cell_of : (s : StockRecord) → is_at s x ≡ true → (s.aisle ≡ x.aisle) × (s.cell ≡ x.height)
      cell_of s e =
          let t = (and-eq-true_iff (eqb s.aisle x.aisle) (eqb s.cell x.height)).0 e in
          (eqb-true s.aisle x.aisle t.0, eqb-true s.cell x.height t.1)

      alone : is_at r x ≡ true → record_at rs x ≡ none
      alone e = no_record x rs (λ s m h. let t = cell_of r e in let u = cell_of s h in apart s m (t.0 ∙ sym u.0, t.1 ∙ sym u.1))

      go : (b : Bool) → is_at r x ≡ b → (p : Bool) → sum_of f (found p (cond b (some r) (record_at rs x))) ≡ cond (b && p) (f r) 0 + sum_of f (found p (record_at rs x))
      go true e true = rw (alone e)
      go true e false = rw (alone e)
      go false e p = omega arith

  -- the records of the passed cells, cell by cell, are those of the stock whose cells are passed
  passed_sum : (rs : List StockRecord) → ((r : StockRecord) → Memᴰ r rs → RecordWithin z r) → OnePerCell rs
      → sum_of (added rs) (cells_of z) ≡ sum_of (λ r. cond (passes r.aisle r.cell) (f r) 0) rs
  unfolding record_at
  passed_sum [] w s = sum_none (added []) (cells_of z) (λ x. refl)
  passed_sum (r ∷ rs) w s =
      sum_agree _ _ (cells_of z) (λ x m. added_more r rs s.0 x)
      ∙ sum_plus (λ x. cond (is_at r x && passes x.aisle x.height) (f r) 0) (added rs) (cells_of z)
      ∙ ap₂ ◌+◌ (at_its_cell z passes r (f r) (w r (Memᴰ.head refl))) (passed_sum rs (λ q m. w q (Memᴰ.tail m)) s.1)

module _ (job : Job) (a : Admitted job) (plan : Plan) where
  -- the stock of an article in the passed records is the supply
  passed_supply : (b : ℕ) → stock_in (passed_records job plan) b ≡ supply (plan_passes plan) (open_stock job) b
  unfolding passed_records supply
  passed_supply b =
      sum_concat (λ (r : StockRecord). cond (eqb r.article b) r.quantity 0) _ (cells_of job.layout)
      ∙ passed_sum job.layout (plan_passes plan) (λ r. cond (eqb r.article b) r.quantity 0) (open_stock job) in_store_lem (open_once job a.cells_once)
      ∙ sum_agree _ _ (open_stock job) (λ r m. both (plan_passes plan r.aisle r.cell) (eqb r.article b) r.quantity)
    where
      in_store_lem : (r : StockRecord) → Memᴰ r (open_stock job) → RecordWithin job.layout r
      in_store_lem r m = ((stock_within job).0 a.stock).records r (open_in_stock job r m)

      both : (x y : Bool) (n : ℕ) → cond x (cond y n 0) 0 ≡ cond (y && x) n 0
      both true true n = refl
      both true false n = refl
      both false true n = refl
      both false false n = refl

  -- where the plan serves the list, the picks of each line's article add up to its quantity
  pub picks_meet : PlanServes job plan → (l : OrderLine) → Memᴰ l job.lines → picked (picks_of job plan) l.article ≡ l.quantity
  unfolding picks_of PlanServes Serves
  picks_meet h l m =
      let apart = (articles_once job).0 a.articles_once in
      omega (arith, h l m, picked_least job.lines (passed_records job plan) l.article apart, lack_line job.lines apart l m, passed_supply l.article)

  -- whatever is picked is of a line's article
  pub pick_listed : (x : Pick) → Memᴰ x (picks_of job plan) → 1 ≤ x.quantity → (l : OrderLine) × Memᴰ l job.lines × (x.article ≡ l.article)
  unfolding picks_of picked
  pick_listed x m above =
      let some-picked = picked_member (λ y. eqb y.article x.article) x (picks_of job plan) m (eq-eqb x.article x.article refl) in
      let least = picked_least job.lines (passed_records job plan) x.article ((articles_once job).0 a.articles_once) in
      lack_listed x.article job.lines (omega arith)
