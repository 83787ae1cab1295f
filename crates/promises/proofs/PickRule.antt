-- From each passed cell is taken what its line still lacks, as far as stock goes; and that rule determines the picks.
use Prim.Native.Nat.{ℕ, zero, suc, ◌+◌, ◌-◌, min, ◌<◌}
use native.Mathlib.Omega.{arith}
use mathlib.Core.Path.{◌≡◌, refl, sym, ◌∙◌, ap, subst}
use mathlib.Core.Logic.{◌⊎◌, inl, inr, ◌↔◌}
use mathlib.Core.List.Memᴰ
use mathlib.Core.List.{List, [], ◌∷◌, Memᴰ}
use mathlib.Core.Bool.{Bool, true, false, cond, ◌&&◌, ◌||◌, and-eq-true_iff}
use borrow.Author.Tests.{ltb-true, lt-ltb, le-ltb, eqb-true, eq-eqb}
use lib.Dec.{ltb, eqb}
use Rattle.rules.specs.declared.StockRecord.{StockRecord}
use Rattle.rules.specs.declared.OrderLine.{OrderLine}
use Rattle.rules.specs.declared.Pick.{Pick}
use Rattle.rules.specs.Jobs.{Job, open_stock}
use Rattle.rules.specs.Plans.{Plan, plan_passes}
use Rattle.rules.specs.Refusals.{Admitted}
use Rattle.rules.specs.Picks.{lack_of, less_of, taken, add_pick, picks_from, passed_records, picks_of, CellBefore, PickBefore}
use Rattle.rules.specs.Lists.{Sorted}
use Rattle.rules.proofs.Admission.{open_in_stock, list_within, articles_once, one_record_per_cell}
use Rattle.promises.specs.Contents.{Content, picked_by, cell_before, picked_from, picked_before}
use Rattle.promises.specs.Calls.{Obeys}
use Rattle.promises.proofs.Table.{untrue}
use Rattle.promises.proofs.Picks.{Apart, lack_listed, lack_line, lack_less, less_apart, pick_of, add_pick_lem}
use Rattle.rules.proofs.Taken.{FromRecord, pick_record, RecordBefore, pick_behind, passed_sorted, passed_record, passed_member}

-- the order of cells and its test
pub cell_before_lem : (i b j c : ℕ) → (cell_before i b j c ≡ true) ↔ CellBefore i b j c
unfolding cell_before CellBefore
cell_before_lem i b j c = (told (ltb i j) refl, holds)
  where
    told : (t : Bool) → ltb i j ≡ t → t || (eqb i j && ltb b c) ≡ true → (i < j) ⊎ ((i ≡ j) × (b < c))
    told true e h = inl (ltb-true i j e)
    told false e h = let p = (and-eq-true_iff (eqb i j) (ltb b c)).0 h in inr (eqb-true i j p.0, ltb-true b c p.1)

    holds : (i < j) ⊎ ((i ≡ j) × (b < c)) → ltb i j || (eqb i j && ltb b c) ≡ true
    holds (inl l) = rw (lt-ltb i j l)
    holds (inr (e, l)) = rw (le-ltb i j (omega arith), eq-eqb i j e, lt-ltb b c l)

-- cells that come before one another are two, and only one comes before
cells_apart : {i b j c : ℕ} → CellBefore i b j c → (i ≡ j) × (b ≡ c) → ⊥
unfolding CellBefore
cells_apart (inl l) e = omega arith
cells_apart (inr l) e = omega arith

cells_ordered : (i b j c : ℕ) → CellBefore i b j c → CellBefore j c i b → ⊥
unfolding CellBefore
cells_ordered i b j c (inl l) (inl m) = omega arith
cells_ordered i b j c (inl l) (inr m) = omega arith
cells_ordered i b j c (inr l) (inl m) = omega arith
cells_ordered i b j c (inr l) (inr m) = omega arith

cells_chain : (i b j c k d : ℕ) → CellBefore i b j c → CellBefore j c k d → CellBefore i b k d
unfolding CellBefore
cells_chain i b j c k d (inl l) (inl m) = inl (omega arith)
cells_chain i b j c k d (inl l) (inr m) = inl (omega arith)
cells_chain i b j c k d (inr l) (inl m) = inl (omega arith)
cells_chain i b j c k d (inr l) (inr m) = inr (omega arith, omega arith)

-- how much is picked at a record, and how much of its article before it
abbrev here : List Pick → StockRecord → ℕ
here picks r = picked_from picks r.aisle r.cell

abbrev before : List Pick → StockRecord → ℕ
before picks r = picked_before picks r.article r.aisle r.cell

-- the rule at a record
abbrev Rule : List OrderLine → List Pick → StockRecord → Type 0
Rule ls picks r = here picks r ≡ min (lack_of ls r.article - before picks r) r.quantity

-- the tests by which picks are counted there
abbrev is_at : StockRecord → Pick → Bool
is_at r x = eqb x.aisle r.aisle && eqb x.cell r.cell

abbrev is_before : StockRecord → Pick → Bool
is_before r x = eqb x.article r.article && cell_before x.aisle x.cell r.aisle r.cell

at_true : (r : StockRecord) (x : Pick) → is_at r x ≡ true → (x.aisle ≡ r.aisle) × (x.cell ≡ r.cell)
at_true r x h =
    let t = (and-eq-true_iff (eqb x.aisle r.aisle) (eqb x.cell r.cell)).0 h in
    (eqb-true x.aisle r.aisle t.0, eqb-true x.cell r.cell t.1)

before_true : (r : StockRecord) (x : Pick) → is_before r x ≡ true → CellBefore x.aisle x.cell r.aisle r.cell
before_true r x h =
    let t = (and-eq-true_iff (eqb x.article r.article) (cell_before x.aisle x.cell r.aisle r.cell)).0 h in
    (cell_before_lem x.aisle x.cell r.aisle r.cell).0 t.1

picked_none : (t : Pick → Bool) (picks : List Pick) → ((x : Pick) → Memᴰ x picks → t x ≡ true → ⊥) → picked_by t picks ≡ 0
picked_none t [] h = refl
picked_none t (x ∷ xs) h = rw (untrue (t x) (h x (Memᴰ.head refl))) (omega (arith, picked_none t xs (λ y m. h y (Memᴰ.tail m))))

here_none : (r : StockRecord) (picks : List Pick) → ((x : Pick) → Memᴰ x picks → (x.aisle ≡ r.aisle) × (x.cell ≡ r.cell) → ⊥) → here picks r ≡ 0
unfolding picked_from
here_none r picks h = picked_none (is_at r) picks (λ x m e. h x m (at_true r x e))

-- picks behind a record's cell: nothing is picked there or before
abbrev Behind : StockRecord → List Pick → Type 0
Behind r picks = (x : Pick) → Memᴰ x picks → CellBefore r.aisle r.cell x.aisle x.cell

behind_here : (r : StockRecord) (picks : List Pick) → Behind r picks → here picks r ≡ 0
behind_here r picks h = here_none r picks (λ x m e. cells_apart (h x m) (sym e.0, sym e.1))

behind_before : (r : StockRecord) (picks : List Pick) → Behind r picks → before picks r ≡ 0
unfolding picked_before
behind_before r picks h = picked_none (is_before r) picks (λ x m e. cells_ordered r.aisle r.cell x.aisle x.cell (h x m) (before_true r x e))

module _ (q : StockRecord) (n : ℕ) (picks : List Pick) where
  -- a pick in front counts at its own cell
  own_here : Behind q picks → here (add_pick q n picks) q ≡ n
  unfolding picked_from
  own_here h =
      let t : is_at q (pick_of q n) ≡ true = rw (eq-eqb q.aisle q.aisle refl, eq-eqb q.cell q.cell refl) in
      let e = add_pick_lem (is_at q) q n picks in
      omega (arith, rw t at e, behind_here q picks h)

  own_before : Behind q picks → before (add_pick q n picks) q ≡ 0
  unfolding picked_before
  own_before h =
      let t = untrue (is_before q (pick_of q n)) (λ e. cells_apart (before_true q (pick_of q n) e) (refl, refl)) in
      let e = add_pick_lem (is_before q) q n picks in
      omega (arith, rw t at e, behind_before q picks h)

  -- and before the cells behind: their lines lack as much less
  later_here : (r : StockRecord) → RecordBefore q r → here (add_pick q n picks) r ≡ here picks r
  unfolding picked_from
  later_here r l =
      let t = untrue (is_at r (pick_of q n)) (λ e. cells_apart l (at_true r (pick_of q n) e)) in
      let e = add_pick_lem (is_at r) q n picks in
      omega (arith, rw t at e)

  later_lack : (ls : List OrderLine) (r : StockRecord) → Apart ls → RecordBefore q r
      → lack_of ls r.article - before (add_pick q n picks) r ≡ lack_of (less_of q.article n ls) r.article - before picks r
  unfolding picked_before
  later_lack ls r s l =
      let earlier = (cell_before_lem q.aisle q.cell r.aisle r.cell).1 l in
      go (eqb q.article r.article) (rw earlier at (add_pick_lem (is_before r) q n picks)) (lack_less q.article n r.article ls s)
    where
      go : (w : Bool) → before (add_pick q n picks) r ≡ cond (w && true) n 0 + before picks r
          → lack_of (less_of q.article n ls) r.article ≡ cond w (lack_of ls r.article - n) (lack_of ls r.article)
          → lack_of ls r.article - before (add_pick q n picks) r ≡ lack_of (less_of q.article n ls) r.article - before picks r
      go true e f = omega arith
      go false e f = omega arith

-- what is taken from the first record keeps the rule there, where all else is picked behind it
own_rule : (ls : List OrderLine) (q : StockRecord) (picks : List Pick) → Behind q picks → Rule ls (add_pick q (taken ls q) picks) q
unfolding taken
own_rule ls q picks h = omega (arith, own_here q (taken ls q) picks h, own_before q (taken ls q) picks h)

-- the picks from records that go upwards keep the rule: by induction over the records, the lines lacking less and less
rule_kept : (ls : List OrderLine) (rs : List StockRecord) → Apart ls → Sorted RecordBefore rs → (r : StockRecord) → Memᴰ r rs → Rule ls (picks_from ls rs) r
rule_kept ls [] s o r m = absurd (Memᴰ.not-nil m)
rule_kept ls (q ∷ rs) s o r m = go m (rule_kept (less_of q.article n ls) rs (less_apart q.article n ls s) o.1 r)
  where
    n : ℕ
    n = taken ls q

    picks : List Pick
    picks = picks_from (less_of q.article n ls) rs

    behind : Behind q picks
    behind x k = let (p, l, f) = pick_record (less_of q.article n ls) rs x k in pick_behind q x p f (o.0 p l)

    go : Memᴰ r (q ∷ rs) → (Memᴰ r rs → Rule (less_of q.article n ls) picks r) → Rule ls (add_pick q n picks) r
    go (Memᴰ.head e) rest = subst (Rule ls (add_pick q n picks)) (sym e) (own_rule ls q picks behind)
    go (Memᴰ.tail k) rest = omega (arith, rest k, later_here q n picks r (o.0 r k), later_lack q n picks ls r s (o.0 r k))

-- every pick takes from one of the records
abbrev FromSome : List StockRecord → List Pick → Type 0
FromSome rs picks = (x : Pick) → Memᴰ x picks → (r : StockRecord) × Memᴰ r rs × FromRecord x r

-- the picks after the first record: it gets its pick of n, if any, and the others come from the other records
record Split (q : StockRecord) (n : ℕ) (rs : List StockRecord) (picks : List Pick) : Type 0 where
  others : List Pick
  whole : picks ≡ add_pick q n others
  from_others : FromSome rs others
  upwards : Sorted PickBefore others

module _ (ls : List OrderLine) (q : StockRecord) (rs : List StockRecord) where
  -- picks behind the first record come from the others
  behind_others : (picks : List Pick) → Behind q picks → FromSome (q ∷ rs) picks → FromSome rs picks
  behind_others picks b f x m = go (f x m)
    where
      go : (r : StockRecord) × Memᴰ r (q ∷ rs) × FromRecord x r → (r : StockRecord) × Memᴰ r rs × FromRecord x r
      go (r, Memᴰ.head e, t) = absurd (cells_apart (b x m) (sym (t.aisle ∙ ap (λ p. p.aisle) e), sym (t.cell ∙ ap (λ p. p.cell) e)))
      go (r, Memᴰ.tail k, t) = (r, k, t)

  -- where all is picked behind it, nothing is taken from it
  all_behind : (picks : List Pick) → Behind q picks → Sorted PickBefore picks → FromSome (q ∷ rs) picks → Rule ls picks q → Split q (taken ls q) rs picks
  unfolding taken
  all_behind picks b s f h =
      let nothing : 0 ≡ taken ls q = omega (arith, behind_here q picks b, behind_before q picks b) in
      record { others = picks; whole = ap (λ k. add_pick q k picks) nothing; from_others = behind_others picks b f; upwards = s }

  -- a pick from it is the pick of what is taken there
  first_picked : (x : Pick) (picks : List Pick) → FromRecord x q → Sorted PickBefore (x ∷ picks) → FromSome (q ∷ rs) (x ∷ picks) → Rule ls (x ∷ picks) q
      → Split q (taken ls q) rs (x ∷ picks)
  unfolding taken PickBefore
  first_picked x picks t s f h =
      let added : x ∷ picks ≡ add_pick q x.quantity picks = rw (lt-ltb 0 x.quantity t.some, ← t.aisle, ← t.cell, ← t.article) in
      let kept = subst (λ p. Rule ls p q) added h in
      let all : x.quantity ≡ taken ls q = omega (arith, kept, own_here q x.quantity picks behind, own_before q x.quantity picks behind) in
      record {
        others = picks;
        whole = added ∙ ap (λ k. add_pick q k picks) all;
        from_others = behind_others picks behind (λ y m. f y (Memᴰ.tail m));
        upwards = s.1;
      }
    where
      behind : Behind q picks
      behind y m = rw (← t.aisle, ← t.cell) (s.0 y m)

  split : (picks : List Pick) → Sorted RecordBefore (q ∷ rs) → Sorted PickBefore picks → FromSome (q ∷ rs) picks → Rule ls picks q → Split q (taken ls q) rs picks
  unfolding PickBefore
  split [] o s f h = all_behind [] (λ x m. absurd (Memᴰ.not-nil m)) s f h
  split (x ∷ picks) o s f h = go (f x (Memᴰ.head refl))
    where
      behind : CellBefore q.aisle q.cell x.aisle x.cell → Behind q (x ∷ picks)
      behind l y (Memᴰ.head e) = subst (λ (z : Pick). CellBefore q.aisle q.cell z.aisle z.cell) (sym e) l
      behind l y (Memᴰ.tail m) = cells_chain q.aisle q.cell x.aisle x.cell y.aisle y.cell l (s.0 y m)

      go : (r : StockRecord) × Memᴰ r (q ∷ rs) × FromRecord x r → Split q (taken ls q) rs (x ∷ picks)
      go (r, Memᴰ.head e, t) = first_picked x picks (subst (FromRecord x) e t) s f h
      go (r, Memᴰ.tail m, t) = all_behind (x ∷ picks) (behind (pick_behind q x r t (o.0 r m))) s f h

-- no other picks keep it: by induction over the records
rule_determines : (ls : List OrderLine) (rs : List StockRecord) (picks : List Pick) → Apart ls → Sorted RecordBefore rs
    → Sorted PickBefore picks → FromSome rs picks → ((r : StockRecord) → Memᴰ r rs → Rule ls picks r) → picks ≡ picks_from ls rs
rule_determines ls [] [] a o s f h = refl
rule_determines ls [] (x ∷ picks) a o s f h = absurd (Memᴰ.not-nil (f x (Memᴰ.head refl)).1)
rule_determines ls (q ∷ rs) picks a o s f h =
    let n = taken ls q in
    let t = split ls q rs picks o s f (h q (Memᴰ.head refl)) in
    let rest = rule_determines (less_of q.article n ls) rs t.others (less_apart q.article n ls a) o.1 t.upwards t.from_others (kept t.others t.whole) in
    t.whole ∙ ap (add_pick q n) rest
  where
    kept : (others : List Pick) → picks ≡ add_pick q (taken ls q) others → (r : StockRecord) → Memᴰ r rs → Rule (less_of q.article (taken ls q) ls) others r
    kept others e r m =
        let l = o.0 r m in
        let w = subst (λ p. Rule ls p r) e (h r (Memᴰ.tail m)) in
        omega (arith, w, later_here q (taken ls q) others r l, later_lack q (taken ls q) others ls r a l)

module _ (job : Job) (a : Admitted job) where
  apart : Apart job.lines
  apart = (articles_once job).0 a.articles_once

  -- from each passed cell the picks of a plan take what its line still lacks, as far as stock goes
  pub picks_rule : (plan : Plan) (r : StockRecord) → Memᴰ r (open_stock job) → plan_passes plan r.aisle r.cell ≡ true
      → (l : OrderLine) → Memᴰ l job.lines → l.article ≡ r.article
      → picked_from (picks_of job plan) r.aisle r.cell ≡ min (l.quantity - picked_before (picks_of job plan) r.article r.aisle r.cell) r.quantity
  unfolding picks_of
  picks_rule plan r m p l k e =
      let kept = rule_kept job.lines (passed_records job plan) apart (passed_sorted job plan) r (passed_member job plan a r m p) in
      let lack = ap (lack_of job.lines) (sym e) ∙ lack_line job.lines apart l k in
      omega arith

  -- picks that obey are the picks of the plan
  pub picks_determined : (c : Content) → Obeys job c → c.picks ≡ picks_of job c.plan
  unfolding picks_of
  picks_determined c o =
      let kept : (r : StockRecord) → Memᴰ r (passed_records job c.plan) → Rule job.lines c.picks r = λ r m. rule r m (lack_of job.lines r.article) refl in
      rule_determines job.lines (passed_records job c.plan) c.picks apart (passed_sorted job c.plan) o.picks_upwards from_passed kept
    where
      from_passed : FromSome (passed_records job c.plan) c.picks
      from_passed x m =
          let (r, t) = o.picks_taken x m in
          (r, passed_member job c.plan a r t.in_stock t.passed, record { aisle = t.aisle; cell = t.cell; article = t.article; some = t.some; no_more = t.no_more })

      -- nothing is picked at a record whose article no line lacks
      unlisted : (r : StockRecord) → Memᴰ r (open_stock job) → lack_of job.lines r.article ≡ 0 → picked_from c.picks r.aisle r.cell ≡ 0
      unlisted r m e = here_none r c.picks (λ x k at. (
          let (q, t) = o.picks_taken x k in
          let (l, h, same) = o.picks_listed x k in
          let taken = open_in_stock job q t.in_stock in
          let one = one_record_per_cell job a.cells_once q r taken (open_in_stock job r m) (sym t.aisle ∙ at.0) (sym t.cell ∙ at.1) in
          let lack = ap (lack_of job.lines) (ap (λ (s : StockRecord). s.article) (sym one) ∙ sym t.article ∙ same) ∙ lack_line job.lines apart l h in
          omega (arith, (((list_within job).0 a.list).lines l h).quantity.0)
          ))

      rule : (r : StockRecord) → Memᴰ r (passed_records job c.plan) → (n : ℕ) → lack_of job.lines r.article ≡ n → Rule job.lines c.picks r
      rule r m zero e = omega (arith, unlisted r (passed_record job c.plan r m).0 e)
      rule r m (suc n) e =
          let (l, k, same) = lack_listed r.article job.lines (omega arith) in
          let p = passed_record job c.plan r m in
          let lack = ap (lack_of job.lines) same ∙ lack_line job.lines apart l k in
          omega (arith, o.picks_rule r p.0 p.1 l k (sym same))
