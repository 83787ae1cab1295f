-- The byte counts of the page: a number that fits fills its column, and so lines have 25 bytes.
use Prim.Native.Nat.{ℕ, ◌+◌, ◌*◌, ◌-◌, ◌≤◌, ◌<◌}
use native.Mathlib.Omega.{arith}
use mathlib.Core.Path.{◌≡◌, refl}
use mathlib.Core.List.{List, [], ◌∷◌, Memᴰ}
use lib.ListN.{length, length-append, length-replicate}
use Rattle.rules.specs.declared.Pick.{Pick}
use Rattle.rules.specs.Lists.{concat_of}
use Rattle.rules.specs.JobFile.{numeral}
use Rattle.rules.specs.Page.{aligned, column, page_line}
use Rattle.lines.proofs.Sizes.{digits_most}

-- the spaces and the digits
pub aligned_length : (width n : ℕ) → length (aligned width n) ≡ (width - length (numeral n)) + length (numeral n)
unfolding aligned
aligned_length width n = simp (length-append, length-replicate)

-- a number of at most so many digits fills its column
aligned_size : (width n : ℕ) → length (numeral n) ≤ width → length (aligned width n) ≡ width
aligned_size width n h = omega (arith, aligned_length width n)

-- the number and the bytes behind it
pub column_length : (width n : ℕ) (behind : List ℕ) → length (column width n behind) ≡ length (aligned width n) + length behind
unfolding column
column_length width n behind = rw length-append

-- the four numbers and the bytes behind them
pub line_length : (x : Pick) → length (page_line x) ≡ length (aligned 2 x.aisle) + length (aligned 2 x.cell) + length (aligned 3 x.quantity) + length (aligned 5 x.article) + 13
unfolding page_line
line_length x = simp (length-append, column_length) (omega arith)

-- a line has 25 bytes, where its numbers fit their columns
pub line_size : (x : Pick) → x.aisle < 100 → x.cell < 100 → x.quantity < 1000 → x.article < 100000 → length (page_line x) ≡ 25
line_size x a c q t =
    let aisle = aligned_size 2 x.aisle (digits_most 1 x.aisle a) in
    let cell = aligned_size 2 x.cell (digits_most 1 x.cell c) in
    let quantity = aligned_size 3 x.quantity (digits_most 2 x.quantity q) in
    let article = aligned_size 5 x.article (digits_most 4 x.article t) in
    omega (arith, line_length x)

-- so so many lines have 25 times as many bytes
pub page_size : (xs : List Pick) → ((x : Pick) → Memᴰ x xs → (x.aisle < 100) × (x.cell < 100) × (x.quantity < 1000) × (x.article < 100000))
    → length (concat_of page_line xs) ≡ 25 * length xs
page_size [] h = refl
page_size (x ∷ xs) h =
    let fits = h x (Memᴰ.head refl) in
    let first = line_size x fits.0 fits.1 fits.2 fits.3 in
    let rest = page_size xs (λ y m. h y (Memᴰ.tail m)) in
    rw length-append (omega (arith, first, rest))
