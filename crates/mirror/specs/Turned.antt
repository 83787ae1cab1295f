-- Points, edges, records, jobs and stores turned front to back; two stores that are each other turned (request #109).
use Rattle.std.specs.Prelude.{ℕ, suc, ◌+◌, ◌-◌, ◌≤◌, ◌≡◌, map}
use Rattle.rules.specs.declared.Side.{Side}
use Rattle.rules.specs.declared.Side.TheVariants.{FrontSide, BackSide}
use Rattle.rules.specs.declared.Layout.{Layout}
use Rattle.rules.specs.declared.StockRecord.{StockRecord}
use Rattle.rules.specs.Store.{Point, Edge, along, front, back, position, aisle_length, side_of, WithoutPosts, PostsWithin}
use Rattle.rules.specs.Jobs.{Job}
use Rattle.rules.specs.Turned.{turned_height}

-- FRONT and BACK exchanged
abbrev pub other_side : Side → Side
other_side FrontSide = BackSide
other_side BackSide = FrontSide

-- a point turned: its height counted from the back crossing
abbrev pub turned_point : ℕ → Point → Point
turned_point cells x = record { aisle = x.aisle; height = turned_height cells x.height }

-- an edge turned: its ends are
abbrev pub turned_edge : ℕ → Edge → Edge
turned_edge cells (along j k) = along j (cells - k)
turned_edge cells (front j) = back j
turned_edge cells (back j) = front j

-- a stock record turned: cell c of C becomes cell C + 1 − c
abbrev pub turned_record : ℕ → StockRecord → StockRecord
turned_record cells r = record { aisle = r.aisle; cell = turned_height cells r.cell; article = r.article; quantity = r.quantity }

-- the job in a given store, its stock records turned; policy, hours and list as they are
abbrev pub turned_into : Layout → Job → Job
turned_into y job =
    record {
      layout = y;
      policy = job.policy;
      stock = map (turned_record job.layout.cells) job.stock;
      hours = job.hours;
      lines = job.lines;
    }

-- y is the store z turned front to back, both without posts: f and b are exchanged, the depot lies at the other side of the same aisle, and
-- all else is as it is; y's k and u are within the bounds. y is given and not made from z, since its lines of the L section may be others: `L 1` turned has an `L 3` with some k
pub record TurnedStore (z y : Layout) : Type 0 where
  pub aisles : y.aisles ≡ z.aisles
  pub cells : y.cells ≡ z.cells
  pub front : y.front ≡ z.back
  pub pitch : y.pitch ≡ z.pitch
  pub back : y.back ≡ z.front
  pub width : y.width ≡ z.width
  pub depot : y.depot ≡ z.depot
  pub side : side_of y ≡ other_side (side_of z)
  pub no_posts : WithoutPosts z.posts
  pub no_posts_there : WithoutPosts y.posts
  pub within : PostsWithin y.posts

-- two stores with the same points and edges: distances and depot may differ
pub record SameGrid (z y : Layout) : Type 0 where
  pub cells : y.cells ≡ z.cells
  pub aisles : y.aisles ≡ z.aisles

-- one is the other turned: its distances are the other's, counted from the back, and its depot lies at the other side
pub record Opposite (z y : Layout) : Type 0 where
  pub grid : SameGrid z y
  pub width : y.width ≡ z.width
  pub depot : y.depot ≡ z.depot
  pub side : side_of y ≡ other_side (side_of z)
  pub long : aisle_length y ≡ aisle_length z
  pub heights : (k : ℕ) → k ≤ suc z.cells → position y (turned_height z.cells k) + position z k ≡ aisle_length z
