-- The shelf of a job: the line of an article, one more record, and whether an aisle holds a listed article.
use Prim.Native.Nat.{ℕ, zero, suc, ◌+◌, ◌-◌, ◌/◌, ◌≤◌, ◌<◌}
use native.Mathlib.Omega.{arith}
use native.Mathlib.Nat.{eq-or-lt_of_le}
use native.Mathlib.Numerals.{add-one}
use native.Mathlib.Decide.{ℕ_discrete}
use mathlib.Core.Path.{◌≡◌, refl, sym, ◌∙◌, ap}
use mathlib.Core.Logic.{◌⊎◌, inl, inr, ⊎_elim}
use mathlib.Core.List.{List, [], ◌∷◌, ◌++◌, Memᴰ, append-nil}
use mathlib.Core.Bool.{Bool, true, false, cond, ◌&&◌, ◌||◌, true≢false}
use mathlib.Core.Option.{Option, none, some}
use Rattle.std.specs.Prelude.{Option as Line, Some, None, is_some, IfSome}
use lib.Dec.{leb, eqb}
use lib.ListN.{length, get_or, take, set, replicate, length-set, get_or-replicate}
use lib.Seq.{get_or-set_same, get_or-set_other, take_all, take-suc}
use borrow.Author.Tests.{leb-true, leb-false, eqb-true, eq-eqb}
use Rattle.rules.specs.declared.StockRecord.{StockRecord}
use Rattle.rules.specs.declared.OrderLine.{OrderLine}
use Rattle.rules.specs.Lists.{any_of, select}
use Rattle.rules.specs.Hours.{Hours, is_open}
use Rattle.rules.specs.Jobs.{Job, open_stock, listed, holds_listed, cell_holds_listed}
use Rattle.rules.specs.Picks.{record_at}
use Rattle.rules.specs.Refusals.{same_cell, Admitted}
use Rattle.rules.proofs.Lists.{any_false, any_true, select_append}
use Rattle.rules.proofs.Admission.{stock_within, layout_within, open_in_stock}
use Rattle.values.specs.declared.JobValue.{JobValue}
use Rattle.values.specs.declared.Shelf.{Shelf}
use Rattle.values.specs.Values.{hours_of, job_of, Sound}
use Rattle.values.specs.Shelves.{line_from, line_of, quantity_of, cell_number, ShelfOf}
use Rattle.between.specs.Between.{listed_at, listed_flags}
use Rattle.between.proofs.Heights.{filled_all}
use Rattle.shelves.proofs.Records.{at_member, none_before, none_select, first_member, first_none, first_other, first_last, cell_at, is_at, is_at_lem, at_itself, one_open_record, its_record}

-- a line that is one of a few is one of more
pub few_below : {n m : ℕ} → n ≤ m → (o : Line ℕ) → IfSome o (λ l. l < n) → IfSome o (λ l. l < m)
few_below h None e = tt
few_below h (Some l) e = omega arith

-- an article is listed if it has a line, and the number of its line is one of the lines'
line_listed : (lines : List OrderLine) (k a : ℕ) → is_some (line_from k lines a) ≡ any_of (λ (l : OrderLine). eqb l.article a) lines
line_listed [] k a = refl
line_listed (l ∷ ls) k a = go (eqb l.article a) (line_listed ls (suc k) a)
  where
    later : Bool
    later = any_of (λ (l : OrderLine). eqb l.article a) ls

    go : (b : Bool) → is_some (line_from (suc k) ls a) ≡ later → is_some (cond b (Some k) (line_from (suc k) ls a)) ≡ (b || later)
    go true e = refl
    go false e = e

line_below : (lines : List OrderLine) (k a : ℕ) → IfSome (line_from k lines a) (λ l. l < k + length lines)
line_below [] k a = tt
line_below (l ∷ ls) k a = go (eqb l.article a) (line_below ls (suc k) a)
  where
    go : (b : Bool) → IfSome (line_from (suc k) ls a) (λ m. m < suc k + length ls)
        → IfSome (cond b (Some k) (line_from (suc k) ls a)) (λ m. m < k + suc (length ls))
    go true e = omega arith
    go false e = few_below (omega arith) (line_from (suc k) ls a) e

-- a value for each cell, made of the cell's record; d for a cell without one
abbrev pub Shelved : {A : Type 0} → (Option StockRecord → A) → A → List StockRecord → List A → Type 0
Shelved f d stock xs =
    (j c : ℕ) → 1 ≤ j → j ≤ 16 → 1 ≤ c → c ≤ 24 → get_or xs (cell_number j c) d ≡ f (record_at stock (cell_at j c))

-- a record that is not there
abbrev pub no_record : StockRecord
no_record = record { aisle = 0; cell = 0; article = 0; quantity = 0 }

-- the numbers of a record that the code computes with
pub record RecordSmall (r : StockRecord) : Type 0 where
  pub aisle : (1 ≤ r.aisle) × (r.aisle ≤ 16)
  pub cell : (1 ≤ r.cell) × (r.cell ≤ 24)

-- at first no cell has a record
pub shelved_none : {A : Type 0} (f : Option StockRecord → A) (d : A) → f none ≡ d → Shelved f d [] (replicate 384 d)
unfolding record_at
shelved_none f d e j c j1 j16 c1 c24 = get_or-replicate 384 (cell_number j c) d d (omega arith) ∙ sym e

-- different cells stand at different places
apart : (j c i d : ℕ) → 1 ≤ j → 1 ≤ c → c ≤ 24 → 1 ≤ i → 1 ≤ d → d ≤ 24 → cell_number j c ≡ cell_number i d → (j ≡ i) × (c ≡ d)
apart j c i d h1 h2 h3 h4 h5 h6 e = let q : cell_number j c / 24 ≡ cell_number i d / 24 = ap (λ n. n / 24) e in (omega arith, omega arith)

-- one more record, the first of its cell
module _ {A : Type 0} (f : Option StockRecord → A) (d : A) (stock : List StockRecord) (r : StockRecord) (w : RecordSmall r)
    (new : any_of (is_at r.aisle r.cell) stock ≡ false) (xs : List A) (long : length xs ≡ 384) where
  abbrev at : ℕ
  at = cell_number r.aisle r.cell

  shelved_more : Shelved f d stock xs → Shelved f d (stock ++ (r ∷ [])) (set xs at (f (some r)))
  unfolding record_at
  shelved_more t j c j1 j16 c1 c24 = go (ℕ_discrete (cell_number j c) at)
    where
      elsewhere : (cell_number j c ≡ at → ⊥) → (b : Bool) → is_at j c r ≡ b → b ≡ false
      elsewhere ne true e = let same = is_at_lem j c r e in absurd (ne (rw (same.0, same.1) refl))
      elsewhere ne false e = refl

      go : Dec (cell_number j c ≡ at) → get_or (set xs at (f (some r))) (cell_number j c) d ≡ f (record_at (stock ++ (r ∷ [])) (cell_at j c))
      go (yes e) =
          let same = apart j c r.aisle r.cell j1 c1 c24 w.aisle.0 w.cell.0 w.cell.1 e in
          rw (same.0, same.1, get_or-set_same xs at (f (some r)) d (omega arith), first_last (is_at r.aisle r.cell) stock r new (at_itself r)) refl
      go (no ne) =
          get_or-set_other xs at (cell_number j c) (f (some r)) d ne
          ∙ t j c j1 j16 c1 c24
          ∙ ap f (sym (first_other (is_at j c) stock r (elsewhere ne (is_at j c r) refl)))

-- of the first n records those of open aisles
abbrev pub open_to : Job → ℕ → List StockRecord
open_to job n = select (λ (r : StockRecord). is_open job.hours r.aisle) (take n job.stock)

-- the shelf of these records
pub record ShelvedTo (job : Job) (line : List (Line ℕ)) (quantity : List ℕ) (n : ℕ) : Type 0 where
  pub line_length : length line ≡ 384
  pub quantity_length : length quantity ≡ 384
  pub lines : Shelved (line_of job.lines) None (open_to job n) line
  pub quantities : Shelved quantity_of 0 (open_to job n) quantity

-- a flag for each aisle: whether it is open
abbrev pub OpenFlags : Hours → List Bool → Type 0
OpenFlags hours flags = (j : ℕ) → 1 ≤ j → j ≤ 16 → get_or flags (j - 1) false ≡ is_open hours j

-- the shelf of no record, and that of all
pub shelve_none : (job : Job) → ShelvedTo job (replicate 384 None) (replicate 384 0) 0
shelve_none job =
    record {
      line_length = refl;
      quantity_length = refl;
      lines = shelved_none (line_of job.lines) None refl;
      quantities = shelved_none quantity_of 0 refl;
    }

pub shelve_all : (job : Job) (shelf : Shelf) (n : ℕ) → length job.stock ≤ n → OpenFlags job.hours shelf.open
    → ShelvedTo job shelf.line shelf.quantity n → ShelfOf job shelf
shelve_all job shelf n all flags t =
    let whole = take_all n job.stock all in
    record { line_at_lem = rw whole at t.lines; quantity_at = rw whole at t.quantities; open_at = flags }

-- the next record of a job's value
module _ (v : JobValue) (sound : Sound v) (n : ℕ) (h : n < length (take v.records v.stock)) where
  -- it is one of the job's
  abbrev nth : StockRecord
  nth = get_or (take v.records v.stock) n no_record

  pub record_small : RecordSmall nth
  unfolding job_of
  record_small =
      let z = (layout_within v.layout).0 sound.admitted.layout in
      let w = ((stock_within (job_of v)).0 sound.admitted.stock).records nth (at_member no_record (take v.records v.stock) n h) in
      record { aisle = (w.aisle.0, omega arith); cell = (w.cell.0, omega arith) }

  -- the flag of its aisle
  pub record_flag : (flags : List Bool) → OpenFlags (hours_of v.hours) flags → get_or flags (nth.aisle - 1) false ≡ is_open (job_of v).hours nth.aisle
  unfolding job_of
  record_flag flags f = let w = record_small.aisle in f nth.aisle w.0 w.1

  -- it is one more of an open aisle, or it is of a shut one
  open_more : open_to (job_of v) (n + 1) ≡ open_to (job_of v) n ++ cond (is_open (job_of v).hours nth.aisle) (nth ∷ []) []
  unfolding job_of
  open_more =
      rw (add-one n, take-suc (take v.records v.stock) n no_record h)
      (select_append (λ (r : StockRecord). is_open (job_of v).hours r.aisle) (take n (take v.records v.stock)) (nth ∷ []))

  -- in a shut aisle it changes nothing
  pub shelve_shut : (line : List (Line ℕ)) (quantity : List ℕ) → is_open (job_of v).hours nth.aisle ≡ false
      → ShelvedTo (job_of v) line quantity n → ShelvedTo (job_of v) line quantity (n + 1)
  shelve_shut line quantity shut t =
      let same : open_to (job_of v) (n + 1) ≡ open_to (job_of v) n = open_more ∙ rw shut (append-nil (open_to (job_of v) n)) in
      record {
        line_length = t.line_length;
        quantity_length = t.quantity_length;
        lines = rw same t.lines;
        quantities = rw same t.quantities;
      }

  -- in an open one it is put on the shelf
  module _ (opened : is_open (job_of v).hours nth.aisle ≡ true) where
    shelved_next : {A : Type 0} (f : Option StockRecord → A) (d : A) (xs : List A) → length xs ≡ 384 → Shelved f d (open_to (job_of v) n) xs
        → Shelved f d (open_to (job_of v) (n + 1)) (set xs (cell_number nth.aisle nth.cell) (f (some nth)))
    unfolding same_cell job_of
    shelved_next f d xs long t =
        let r = nth in
        let stock = take v.records v.stock in
        let before : any_of (is_at r.aisle r.cell) (take n stock) ≡ false = none_before same_cell no_record stock n h sound.admitted.cells_once in
        let new = none_select (is_at r.aisle r.cell) (λ (s : StockRecord). is_open (job_of v).hours s.aisle) (take n stock) before in
        rw (open_more, opened) (shelved_more f d (open_to (job_of v) n) r record_small new xs long t)

    pub shelve_next : (line : List (Line ℕ)) (quantity : List ℕ) (at : ℕ) (x : Line ℕ) → at ≡ cell_number nth.aisle nth.cell
        → x ≡ line_from 0 (take v.orders v.lines) nth.article → ShelvedTo (job_of v) line quantity n → ShelvedTo (job_of v) (set line at x) (set quantity at nth.quantity) (n + 1)
    unfolding job_of
    shelve_next line quantity at x p e t =
        record {
          line_length = length-set line at x ∙ t.line_length;
          quantity_length = length-set quantity at nth.quantity ∙ t.quantity_length;
          lines = rw (p, e) (shelved_next (line_of (job_of v).lines) None line t.line_length t.lines);
          quantities = rw p (shelved_next quantity_of 0 quantity t.quantity_length t.quantities);
        }

-- whether an aisle holds a listed article
module _ {job : Job} {shelf : Shelf} (ok : Admitted job) (of : ShelfOf job shelf) (j : ℕ) (low : 1 ≤ j) (high : j ≤ 16) where
  -- it does where one of its cells has a line
  pub holds_some : (c : ℕ) → 1 ≤ c → c ≤ 24 → is_some (get_or shelf.line (cell_number j c) None) ≡ true → holds_listed job j ≡ true
  unfolding holds_listed listed record_at
  holds_some c c1 c24 h = go (record_at (open_stock job) (cell_at j c)) refl
    where
      go : (o : Option StockRecord) → record_at (open_stock job) (cell_at j c) ≡ o → holds_listed job j ≡ true
      go none e = absurd (true≢false (sym h ∙ ap is_some (of.line_at_lem j c low high c1 c24 ∙ ap (line_of job.lines) e)))
      go (some r) e =
          let (m, there) = first_member (is_at j c) (open_stock job) r e in
          let line : get_or shelf.line (cell_number j c) None ≡ line_from 0 job.lines r.article = of.line_at_lem j c low high c1 c24 ∙ ap (line_of job.lines) e in
          let has : listed job r.article ≡ true = sym (line_listed job.lines 0 r.article) ∙ ap is_some (sym line) ∙ h in
          (any_true _ (open_stock job)).1 (r, m, rw (eq-eqb r.aisle j (is_at_lem j c r there).0) has)

  -- it does not where none has
  pub holds_none : ((c : ℕ) → 1 ≤ c → c ≤ job.layout.cells → is_some (get_or shelf.line (cell_number j c) None) ≡ false) → holds_listed job j ≡ false
  unfolding holds_listed listed
  holds_none none_there = (any_false _ (open_stock job)).1 (λ r m. go r m (eqb r.aisle j) refl)
    where
      go : (r : StockRecord) → Memᴰ r (open_stock job) → (b : Bool) → eqb r.aisle j ≡ b → (b && listed job r.article) ≡ false
      go r m false e = refl
      go r m true e =
          let w = ((stock_within job).0 ok.stock).records r (open_in_stock job r m) in
          let z = (layout_within job.layout).0 ok.layout in
          let own : record_at (open_stock job) (cell_at j r.cell) ≡ some r = rw (← eqb-true r.aisle j e) (its_record job ok r m) in
          let line : get_or shelf.line (cell_number j r.cell) None ≡ line_from 0 job.lines r.article =
          of.line_at_lem j r.cell low high w.cell.0 (omega arith) ∙ ap (line_of job.lines) own in
          sym (line_listed job.lines 0 r.article) ∙ ap is_some (sym line) ∙ none_there r.cell w.cell.0 w.cell.1

  -- whether a cell holds one: whether it has a line
  pub cell_holds : (c : ℕ) → 1 ≤ c → c ≤ 24 → cell_holds_listed job j c ≡ is_some (get_or shelf.line (cell_number j c) None)
  unfolding cell_holds_listed listed record_at
  cell_holds c c1 c24 = go (record_at (open_stock job) (cell_at j c)) refl
    where
      holds_one : StockRecord → Bool
      holds_one r = is_at j c r && listed job r.article

      -- records of other cells hold nothing here, and that of the cell holds a listed article or not
      from_record : (r : StockRecord) → Memᴰ r (open_stock job) → is_at j c r ≡ true → (b : Bool) → listed job r.article ≡ b → any_of holds_one (open_stock job) ≡ b
      from_record r m there true l = (any_true holds_one (open_stock job)).1 (r, m, rw (there, l) refl)
      from_record r m there false l = (any_false holds_one (open_stock job)).1 (λ s k. other s k (is_at j c s) refl)
        where
          other : (s : StockRecord) → Memᴰ s (open_stock job) → (b : Bool) → is_at j c s ≡ b → (b && listed job s.article) ≡ false
          other s k false e = refl
          other s k true e =
              let here = is_at_lem j c r there in
              let same = is_at_lem j c s e in
              rw (one_open_record job ok s r k m (same.0 ∙ sym here.0) (same.1 ∙ sym here.1)) l

      go : (o : Option StockRecord) → record_at (open_stock job) (cell_at j c) ≡ o → cell_holds_listed job j c ≡ is_some (get_or shelf.line (cell_number j c) None)
      go none e =
          let none_there = (any_false (is_at j c) (open_stock job)).0 (first_none (is_at j c) (open_stock job) e) in
          (any_false holds_one (open_stock job)).1 (λ r m. rw (none_there r m) refl)
          ∙ sym (ap is_some (of.line_at_lem j c low high c1 c24 ∙ ap (line_of job.lines) e))
      go (some r) e =
          let (m, there) = first_member (is_at j c) (open_stock job) r e in
          from_record r m there (listed job r.article) refl
          ∙ sym (ap is_some (of.line_at_lem j c low high c1 c24 ∙ ap (line_of job.lines) e) ∙ line_listed job.lines 0 r.article)

-- flags by height: the cells of aisle j before cell c are flagged where they have a line, no other height is
pub record Flagged (line : List (Line ℕ)) (j : ℕ) (flags : List Bool) (c : ℕ) : Type 0 where
  pub low : 1 ≤ c
  pub size : length flags ≡ 26
  pub done : (k : ℕ) → 1 ≤ k → k < c → get_or flags k false ≡ is_some (get_or line (cell_number j k) None)
  pub rest : (k : ℕ) → (k ≡ 0) ⊎ (c ≤ k) → get_or flags k false ≡ false

module _ (line : List (Line ℕ)) (j : ℕ) where
  -- at first none is
  pub none_flagged : Flagged line j (replicate 26 false) 1
  none_flagged =
      record { low = omega arith; size = refl; done = λ k low high. absurd (omega arith); rest = λ k h. not_flagged 26 k }
    where
      not_flagged : (n k : ℕ) → get_or (replicate n false) k false ≡ false
      not_flagged zero k = refl
      not_flagged (suc n) zero = refl
      not_flagged (suc n) (suc k) = not_flagged n k

  -- one more cell
  pub flag_more : (c n : ℕ) (flags : List Bool) → c < 26 → n ≡ cell_number j c → Flagged line j flags c
      → Flagged line j (set flags c (is_some (get_or line n None))) (c + 1)
  flag_more c n flags l e f =
      let flag = is_some (get_or line n None) in
      let here = get_or-set_same flags c flag false (omega (arith, f.size)) ∙ ap (λ m. is_some (get_or line m None)) e in
      let there : (k : ℕ) → (k ≡ c → ⊥) → get_or (set flags c flag) k false ≡ get_or flags k false = λ k ne. get_or-set_other flags c k flag false ne in
      let first = f.low in
      record {
        low = omega arith;
        size = length-set flags c flag ∙ f.size;
        done = λ k low high. let upto : k ≤ c = omega arith in ⊎_elim (λ p. rw p here) (λ h. there k (λ p. omega arith) ∙ f.done k low h) (eq-or-lt_of_le upto);
        rest = λ k h. ⊎_elim (λ z. there k (λ p. omega arith) ∙ f.rest k (inl z)) (λ z. there k (λ p. omega arith) ∙ f.rest k (inr (omega arith))) h;
      }

-- the flags of all cells are those of the listed ones
pub flags_are : {job : Job} {shelf : Shelf} → Admitted job → ShelfOf job shelf → (j : ℕ) → 1 ≤ j → j ≤ 16 → job.layout.cells ≤ 24
    → (flags : List Bool) (c : ℕ) → Flagged shelf.line j flags c → c ≡ suc job.layout.cells → flags ≡ listed_flags job j
unfolding listed_flags
flags_are {job} {shelf} ok of j low high few flags c f e =
    filled_all (listed_at job j) false flags 26 (omega arith)
    (record { size = f.size; each = λ k l. go k (leb 1 k) refl (leb k job.layout.cells) refl })
  where
    go : (k : ℕ) (a : Bool) → leb 1 k ≡ a → (b : Bool) → leb k job.layout.cells ≡ b → get_or flags k false ≡ a && (b && cell_holds_listed job j k)
    go k false p b q = f.rest k (inl (let h = leb-false 1 k p in omega arith))
    go k true p false q = f.rest k (inr (let h = leb-false k job.layout.cells q in omega arith))
    go k true p true q =
        let first = leb-true 1 k p in
        let last = leb-true k job.layout.cells q in
        f.done k first (omega arith) ∙ sym (cell_holds ok of j low high k first (omega arith))

-- the line of a cell is one of the lines
pub lines_below : {job : Job} {shelf : Shelf} → ShelfOf job shelf → (j c : ℕ) → 1 ≤ j → j ≤ 16 → 1 ≤ c → c ≤ 24
    → IfSome (get_or shelf.line (cell_number j c) None) (λ l. l < length job.lines)
lines_below {job} {shelf} of j c j1 j16 c1 c24 = go (record_at (open_stock job) (cell_at j c)) (of.line_at_lem j c j1 j16 c1 c24)
  where
    go : (o : Option StockRecord) → get_or shelf.line (cell_number j c) None ≡ line_of job.lines o
        → IfSome (get_or shelf.line (cell_number j c) None) (λ l. l < length job.lines)
    go none e = rw e tt
    go (some r) e = rw e (few_below (omega arith) (line_from 0 job.lines r.article) (line_below job.lines 0 r.article))
