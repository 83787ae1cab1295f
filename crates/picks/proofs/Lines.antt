-- Order lines with no article twice: the number of a line stands for its article.
use Prim.Native.Nat.{ℕ, suc, ◌+◌, ◌-◌, ◌<◌, min}
use native.Mathlib.Omega.{arith}
use native.Mathlib.Nat.{sub-zero}
use mathlib.Core.Path.{◌≡◌, refl, sym, ap, ap₂, subst, ◌∙◌}
use mathlib.Core.List.{List, [], ◌∷◌, Memᴰ}
use mathlib.Core.Bool.{Bool, true, false, cond, true≢false}
use lib.Dec.{eqb}
use lib.ListN.{length, get_or, set, length-map}
use borrow.Author.Tests.{eqb-true, ne_eqb}
use Rattle.rules.specs.declared.OrderLine.{OrderLine}
use Rattle.rules.specs.declared.StockRecord.{StockRecord}
use Rattle.rules.specs.Lists.{Sorted}
use Rattle.rules.specs.Jobs.{Job}
use Rattle.rules.specs.Picks.{lack_of, less_of, taken}
use Rattle.rules.proofs.Lists.{sorted_map}
use Rattle.std.specs.Prelude.{Option, Some, None, is_some, unwrap_or}
use Rattle.values.specs.Shelves.{line_from}
use Rattle.values.specs.Values.{no_line}
use Rattle.picks.specs.Picking.{taken_of, less_line}

-- a line is not none
pub not_none : {A : Type 0} {k : ℕ} → None ≡ Some k → A
not_none e = absurd (true≢false (sym (ap is_some e)))

-- where some is taken there is a line
pub line_there : (passed : Bool) (lacking : List OrderLine) (number : Option ℕ) (stock : ℕ) → 0 < cond passed (taken_of lacking number stock) 0
    → number ≡ Some (unwrap_or number 0)
line_there false lacking number stock l = absurd (omega arith)
line_there true lacking None stock l = absurd (omega arith)
line_there true lacking (Some k) stock l = refl

-- no article on two lines
abbrev pub Once : List OrderLine → Type 0
Once lines = Sorted (λ (k l : OrderLine). k.article ≡ l.article → ⊥) lines

-- line k is the one of an article
pub record OnLine (a : ℕ) (lines : List OrderLine) (k : ℕ) : Type 0 where
  pub within : k < length lines
  pub article : (get_or lines k no_line).article ≡ a
  pub lack : lack_of lines a ≡ (get_or lines k no_line).quantity
  pub less : (n : ℕ) → less_of a n lines ≡ set lines k (less_line n (get_or lines k no_line))

-- an article on no line
module _ (a : ℕ) where
  lack_none : (lines : List OrderLine) → ((l : OrderLine) → Memᴰ l lines → l.article ≡ a → ⊥) → lack_of lines a ≡ 0
  unfolding lack_of
  lack_none [] h = refl
  lack_none (l ∷ ls) h =
      rw (ne_eqb l.article a (h l (Memᴰ.head refl))) (omega (arith, lack_none ls (λ k m. h k (Memᴰ.tail m))))

  less_none : (n : ℕ) (lines : List OrderLine) → ((l : OrderLine) → Memᴰ l lines → l.article ≡ a → ⊥) → less_of a n lines ≡ lines
  unfolding less_of
  less_none n [] h = refl
  less_none n (l ∷ ls) h =
      rw (ne_eqb l.article a (h l (Memᴰ.head refl))) (ap (λ (ks : List OrderLine). l ∷ ks) (less_none n ls (λ k m. h k (Memᴰ.tail m))))

-- where an article stands, by the number of its line counted from i
data Standing (a : ℕ) (lines : List OrderLine) (i : ℕ) : Option ℕ → Type 0 where
  off : lack_of lines a ≡ 0 → Standing a lines i None
  on : (k m : ℕ) → i + k ≡ m → OnLine a lines k → Standing a lines i (Some m)

standing : (a i : ℕ) (lines : List OrderLine) → Once lines → Standing a lines i (line_from i lines a)
unfolding lack_of less_of
standing a i [] o = off refl
standing a i (l ∷ ls) o = go (eqb l.article a) refl (standing a (suc i) ls o.1)
  where
    first : eqb l.article a ≡ true → OnLine a (l ∷ ls) 0
    first e =
        let same : l.article ≡ a = eqb-true l.article a e in
        let others : (k : OrderLine) → Memᴰ k ls → k.article ≡ a → ⊥ = λ k m q. o.0 k m (same ∙ sym q) in
        record {
          within = omega arith;
          article = same;
          lack = rw e (omega (arith, lack_none a ls others));
          less = λ n. rw (e, less_none a n ls others);
        }

    later : {m : Option ℕ} → eqb l.article a ≡ false → Standing a ls (suc i) m → Standing a (l ∷ ls) i m
    later e (off z) = off (rw e (omega arith))
    later e (on k m p s) =
        on (suc k) m (omega arith)
        (record {
          within = omega (arith, s.within);
          article = s.article;
          lack = rw e (omega (arith, s.lack));
          less = λ n. rw (e, s.less n);
        })

    go : (b : Bool) → eqb l.article a ≡ b → Standing a ls (suc i) (line_from (suc i) ls a) → Standing a (l ∷ ls) i (cond b (Some i) (line_from (suc i) ls a))
    go true e s = on 0 i (omega arith) (first e)
    go false e s = later e s

-- nothing fewer
pub less_zero : (a : ℕ) (lines : List OrderLine) → less_of a 0 lines ≡ lines
unfolding less_of
less_zero a [] = refl
less_zero a (l ∷ ls) = ap₂ ◌∷◌ (go (eqb l.article a)) (less_zero a ls)
  where
    go : (b : Bool) → record { article = l.article; quantity = cond b (l.quantity - 0) l.quantity } ≡ l
    go true = rw sub-zero
    go false = refl

-- fewer lacking, the same lines
line_less : (a n b i : ℕ) (lines : List OrderLine) → line_from i (less_of a n lines) b ≡ line_from i lines b
unfolding less_of
line_less a n b i [] = refl
line_less a n b i (l ∷ ls) = ap (cond (eqb l.article b) (Some i)) (line_less a n b (suc i) ls)

-- what a job's lines still lack: the articles are those of its lines, none of them twice
pub record Lacking (job : Job) (lacking : List OrderLine) : Type 0 where
  pub once : Once lacking
  pub count : length lacking ≡ length job.lines
  pub numbers : (a : ℕ) → line_from 0 lacking a ≡ line_from 0 job.lines a

module _ {job : Job} {lacking : List OrderLine} (s : Lacking job lacking) where
  pub lacking_less : (a n : ℕ) → Lacking job (less_of a n lacking)
  unfolding less_of
  lacking_less a n =
      record {
        once = sorted_map (λ (k l : OrderLine). k.article ≡ l.article → ⊥) (λ (k l : OrderLine). k.article ≡ l.article → ⊥) _ lacking (λ k l d. d) s.once;
        count = length-map lacking _ ∙ s.count;
        numbers = λ b. line_less a n b 0 lacking ∙ s.numbers b;
      }

  -- the line with an article's number is its line
  pub on_line : (a k : ℕ) → line_from 0 job.lines a ≡ Some k → OnLine a lacking k
  on_line a k e = go (standing a 0 lacking s.once) (s.numbers a ∙ e)
    where
      go : {m : Option ℕ} → Standing a lacking 0 m → m ≡ Some k → OnLine a lacking k
      go (off z) q = not_none q
      go (on i m p l) q = let same : i ≡ k = omega (arith, ap (λ o. unwrap_or o 0) q) in subst (OnLine a lacking) same l

  -- what is taken of a record goes by the number of its line
  pub taken_by_number : (r : StockRecord) → taken lacking r ≡ taken_of lacking (line_from 0 job.lines r.article) r.quantity
  unfolding taken
  taken_by_number r = rw (← s.numbers r.article) (go (standing r.article 0 lacking s.once))
    where
      go : {m : Option ℕ} → Standing r.article lacking 0 m → min (lack_of lacking r.article) r.quantity ≡ taken_of lacking m r.quantity
      go (off z) = omega arith
      go (on i m p l) = let same : i ≡ m = omega arith in rw (l.lack, same)
