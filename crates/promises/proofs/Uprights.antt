-- Uprights between the cells: posts of 0 change no answer, and no sheet has a length above the ceiling.
use Prim.Native.Nat.{ℕ, ◌+◌, ◌*◌, ◌-◌, ◌/◌, ◌≤◌}
use native.Mathlib.Omega.{arith}
use mathlib.Core.Path.{◌≡◌, refl, ap, ap₂, subst, ◌∙◌}
use mathlib.Core.Logic.{◌↔◌}
use mathlib.Core.Bool.{true}
use mathlib.Core.List.{List}
use lib.ListN.{replicate}
use borrow.Author.Tests.{leb-true, le-leb}
use Rattle.rules.specs.declared.Side.TheVariants.{FrontSide, BackSide}
use Rattle.rules.specs.declared.Layout.{Layout}
use Rattle.rules.specs.declared.Policy.{Policy}
use Rattle.rules.specs.declared.Posts.{Posts}
use Rattle.rules.specs.declared.Posts.TheVariants.{NoPosts, Every, Sided}
use Rattle.rules.specs.Store.{posts_before, WithoutPosts, PostsWithin, within, side_in, aisle_length, position}
use Rattle.rules.specs.Jobs.{Job, job_with_posts}
use Rattle.rules.specs.JobFile.{job_text}
use Rattle.rules.specs.Policies.{in_front_half, in_back_half}
use Rattle.rules.specs.BestPlan.{best_plan}
use Rattle.rules.specs.Refusals.{same_cell, record_in_bounds, stock_in_bounds, same_article, line_in_bounds, list_in_bounds, weight, all_stock, short_of_stock, work_limit, Admitted}
use Rattle.rules.specs.Answers.{answer, host_answer, output}
use Rattle.rules.specs.Examples.{stocked, ◌⨯◌, alpha}
use Rattle.rules.proofs.Admission.{layout_within}
use Rattle.rules.proofs.Ceiling.{plan_length_57280}
use Rattle.rules.proofs.EmptyList.{lawful_well_formed}
use Rattle.rules.proofs.Lengths.{cell_without_posts, position_cell, position_within}
use Rattle.rules.proofs.SamePosts.{nothing_between, same_answer, same_page_answer}
use Rattle.rules.proofs.Texts.{admitted_file}
use Rattle.optimum.proofs.Best.{best_plan_lem}
use Rattle.promises.specs.Causes.{JobFileOf}
use Rattle.promises.specs.Contents.{Content, content_of}
use Rattle.promises.specs.Calls.{Shows}
use Rattle.promises.specs.Uprights.{SecondLine, PostsOfNothing}
use Rattle.promises.specs.OpeningHours.{SameAnswers}
use Rattle.promises.proofs.Table.{job_file_read}
use Rattle.promises.proofs.SameAnswers.{same_answers}
use Rattle.promises.proofs.Shown.{shown_best}
use Rattle.promises.proofs.Entering.{one_nine}

module _ (job : Job) (posts others : Posts) (plain lined : List ℕ) (f : PostsOfNothing job posts others plain lined) where
  -- the two files have the same answers
  alike : SameAnswers lined plain
  alike =
      let same = nothing_between others posts f.none_there f.none f.side f.bounds_there f.bounds in
      same_answers lined plain (job_with_posts others job) (job_with_posts posts job) f.other_file f.one_file
      (same_answer others posts same job) (same_page_answer others posts same job)

  pub same_calls : (sheet work : List ℕ) → answer lined sheet work ≡ answer plain sheet work
  same_calls = alike.call

  -- and so it is for the planning host and for the program
  pub same_host : (sheet : List ℕ) → host_answer lined sheet ≡ host_answer plain sheet
  unfolding host_answer
  same_host sheet = alike.call sheet (replicate work_limit 0)

  pub same_output : output lined ≡ output plain
  same_output = alike.printed

-- what posts take before a cell, by the second line
second_line : (p : Posts) (k u : ℕ) → SecondLine p k u → (i : ℕ) → posts_before p i ≡ u * ((i - 1) / k)
second_line NoPosts k u e i = elim e [ ]
second_line (Every a b) k u (e, f) i = ap₂ (λ c d. d * ((i - 1) / c)) e f
second_line (Sided a b side) k u (e, f) i = ap₂ (λ c d. d * ((i - 1) / c)) e f

-- where the cells lie between posts, and how long an aisle is
pub posts_between : (z : Layout) (k u : ℕ) → SecondLine z.posts k u
    → ((i : ℕ) → 1 ≤ i → i ≤ z.cells → position z i ≡ z.front + (i - 1) * z.pitch + u * ((i - 1) / k))
    × (aisle_length z ≡ z.front + (z.cells - 1) * z.pitch + u * ((z.cells - 1) / k) + z.back)
unfolding aisle_length
posts_between z k u e = (
  λ i low high. position_cell z i low high ∙ ap (λ n. z.front + (i - 1) * z.pitch + n) (second_line z.posts k u e i),
  ap (λ n. z.front + (z.cells - 1) * z.pitch + n + z.back) (second_line z.posts k u e z.cells),
)

-- the same without posts
pub posts_absent : (z : Layout) → WithoutPosts z.posts
    → ((i : ℕ) → 1 ≤ i → i ≤ z.cells → position z i ≡ z.front + (i - 1) * z.pitch)
    × (aisle_length z ≡ z.front + (z.cells - 1) * z.pitch + z.back)
unfolding aisle_length
posts_absent z w = (
  λ i low high. position_cell z i low high ∙ cell_without_posts z w i,
  ap (λ n. n + z.back) (cell_without_posts z w z.cells),
)

-- the halves, in distances from both crossings
pub halves : (z : Layout) (i : ℕ)
    → ((in_front_half z i ≡ true) ↔ (position z i ≤ aisle_length z - position z i))
    × ((in_back_half z i ≡ true) ↔ (aisle_length z - position z i ≤ position z i))
unfolding in_front_half in_back_half
halves z i =
    let p = position z i in
    let l = aisle_length z in
    let far = position_within z i in (
      (λ e. omega (arith, leb-true (2 * p) l e), λ h. le-leb (2 * p) l (omega arith)),
      (λ e. omega (arith, leb-true l (2 * p) e), λ h. le-leb l (2 * p) (omega arith)),
    )

-- the plan on a sheet is one of the store, so its length is below the ceiling
pub below_ceiling : (bytes sheet work : List ℕ) (job : Job) (c : Content) → Shows bytes sheet work job c → c.length ≤ 57280
unfolding content_of
below_ceiling bytes sheet work job c s =
    let (a, e) = shown_best bytes sheet work job c s in
    let well = lawful_well_formed job.layout job.lines (best_plan job) (best_plan_lem job a).allowed.lawful in
    subst (λ (d : Content). d.length ≤ 57280) e (plan_length_57280 job.layout (best_plan job) a.layout well)

-- the job of the worked example is admitted with any posts within the bounds
pub nine_admitted : (policy : Policy) (posts : Posts) → PostsWithin posts → Admitted (job_with_posts posts (one_nine policy))
unfolding alpha stocked ◌⨯◌ within same_cell record_in_bounds stock_in_bounds same_article line_in_bounds list_in_bounds weight all_stock short_of_stock
nine_admitted policy posts bounds =
    record {
      layout = (layout_within (job_with_posts posts (one_nine policy)).layout).1 (record {
        aisles = (omega arith, omega arith);
        cells = (omega arith, omega arith);
        front = (omega arith, omega arith);
        pitch = (omega arith, omega arith);
        back = (omega arith, omega arith);
        width = (omega arith, omega arith);
        depot = (omega arith, omega arith);
        posts = bounds;
      });
      stock = refl;
      cells_once = refl;
      hours = refl;
      list = refl;
      articles_once = refl;
      light = omega arith;
      in_stock = refl;
    }

-- there are such files, under every policy: without posts, with `L 2` and `L 3`; and from the back with one k and another
pub both_files : (policy : Policy)
    → let job = one_nine policy in
    let text : Posts → List ℕ = λ posts. job_text (job_with_posts posts job) in
    PostsOfNothing job NoPosts (Every 3 0) (text NoPosts) (text (Every 3 0))
    × PostsOfNothing job NoPosts (Sided 3 0 FrontSide) (text NoPosts) (text (Sided 3 0 FrontSide))
    × PostsOfNothing job (Sided 1 0 BackSide) (Sided 3 0 BackSide) (text (Sided 1 0 BackSide)) (text (Sided 3 0 BackSide))
both_files policy = (
  files NoPosts (Every 3 0) tt (omega arith, omega arith, omega arith) tt refl refl,
  files NoPosts (Sided 3 0 FrontSide) tt (omega arith, omega arith, omega arith) tt refl refl,
  files (Sided 1 0 BackSide) (Sided 3 0 BackSide) (omega arith, omega arith, omega arith) (omega arith, omega arith, omega arith) refl refl refl,
)
  where
    file : (posts : Posts) → PostsWithin posts → JobFileOf (job_text (job_with_posts posts (one_nine policy))) (job_with_posts posts (one_nine policy))
    file posts within =
        let job = job_with_posts posts (one_nine policy) in
        (job_file_read (job_text job) job).0 (admitted_file job (nine_admitted policy posts within))

    files : (posts others : Posts) → PostsWithin posts → PostsWithin others → WithoutPosts posts → WithoutPosts others → side_in others ≡ side_in posts
        → PostsOfNothing (one_nine policy) posts others (job_text (job_with_posts posts (one_nine policy))) (job_text (job_with_posts others (one_nine policy)))
    files posts others b c n o same =
        record { none = n; none_there = o; bounds = b; bounds_there = c; side = same; one_file = file posts b; other_file = file others c }
