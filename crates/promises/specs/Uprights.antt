-- Request #102, uprights between the cells: what the second line of the L section says, and files of one job that say no posts.
use Rattle.std.specs.Prelude.{ℕ, ◌≡◌, List}
use Rattle.rules.specs.declared.Posts.{Posts}
use Rattle.rules.specs.declared.Posts.TheVariants.{NoPosts, Every, Sided}
use Rattle.rules.specs.Store.{WithoutPosts, PostsWithin, side_in}
use Rattle.rules.specs.Jobs.{Job, job_with_posts}
use Rattle.promises.specs.Causes.{JobFileOf}

-- the second line of the L section is `k u`: under `L 2`, and under `L 3` (#109) whatever the third line says
abbrev pub SecondLine : Posts → ℕ → ℕ → Type 0
SecondLine NoPosts k u = ⊥
SecondLine (Every a b) k u = (a ≡ k) × (b ≡ u)
SecondLine (Sided a b side) k u = (a ≡ k) × (b ≡ u)

-- two job files of one job that both say no posts, by no second line or by one with u 0 and k 1 to 24, and put the depot at the same side
pub record PostsOfNothing (job : Job) (posts others : Posts) (plain lined : List ℕ) : Type 0 where
  pub none : WithoutPosts posts
  pub none_there : WithoutPosts others
  pub bounds : PostsWithin posts
  pub bounds_there : PostsWithin others
  pub side : side_in others ≡ side_in posts
  pub one_file : JobFileOf plain (job_with_posts posts job)
  pub other_file : JobFileOf lined (job_with_posts others job)
