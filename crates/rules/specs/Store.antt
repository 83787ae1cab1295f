-- Document 01, "The store": points, edges, distances, the depot; request #102: posts; request #109: the depot at the back.
use Rattle.std.specs.Prelude.{ℕ, zero, suc, ◌+◌, ◌*◌, ◌-◌, ◌/◌, ◌≤◌, ◌<◌, ◌≡◌, ◌⊎◌, List, ◌++◌, map, Bool, true, false, cond, ◌&&◌, ltb, leb, eqb}
use Rattle.rules.specs.declared.Side.{Side}
use Rattle.rules.specs.declared.Side.TheVariants.{FrontSide, BackSide}
use Rattle.rules.specs.declared.Posts.{Posts}
use Rattle.rules.specs.declared.Posts.TheVariants.{NoPosts, Every, Sided}
use Rattle.rules.specs.declared.Layout.{Layout}
use Rattle.rules.specs.Lists.{from, concat_of}

-- what the posts ("uprights") before cell i take: u·((i − 1) divided by k, rounded down)
abbrev pub posts_before : Posts → ℕ → ℕ
posts_before NoPosts i = 0
posts_before (Every k u) i = u * ((i - 1) / k)
posts_before (Sided k u side) i = u * ((i - 1) / k)

-- there are no posts: the job file has no line for them, or says that they are 0 wide
abbrev pub WithoutPosts : Posts → Type 0
WithoutPosts NoPosts = Unit {0}
WithoutPosts (Every k u) = u ≡ 0
WithoutPosts (Sided k u side) = u ≡ 0

-- how far cell i lies from the front: f + (i − 1)·p, and the posts before it
abbrev pub cell_position : Layout → ℕ → ℕ
cell_position z i = z.front + (i - 1) * z.pitch + posts_before z.posts i

-- L: the length of an aisle from its front crossing to its back crossing, b beyond cell C
unfoldable pub aisle_length : Layout → ℕ
aisle_length z = cell_position z z.cells + z.back

-- the distance of a height from the front: height 0 is the front crossing, 1 to C the cells, C + 1 the back crossing
unfoldable pub position : Layout → ℕ → ℕ
position z zero = 0
position z (suc k) = cond (ltb k z.cells) (cell_position z (suc k)) (aisle_length z)

-- a crossing or a cell: an aisle, 1 to m, and a height in it
pub record Point : Type 0 where
  pub aisle : ℕ
  pub height : ℕ

-- the height of the back crossings
unfoldable pub back_height : Layout → ℕ
back_height z = suc z.cells

-- the side that the third line of the L section says; where there is no such line, the front
abbrev pub side_in : Posts → Side
side_in NoPosts = FrontSide
side_in (Every k u) = FrontSide
side_in (Sided k u side) = side

-- the side of the store at which the depot lies
abbrev pub side_of : Layout → Side
side_of z = side_in z.posts

-- the height of the crossings at a side, in aisles of so many cells
abbrev pub height_at : Side → ℕ → ℕ
height_at FrontSide cells = 0
height_at BackSide cells = suc cells

-- the depot's height
abbrev pub depot_height : Layout → ℕ
depot_height z = height_at (side_of z) z.cells

-- the depot is the front crossing of aisle d, with BACK its back crossing
unfoldable pub depot_point : Layout → Point
depot_point z = record { aisle = z.depot; height = depot_height z }

-- an edge ("stretch") joins two neighbouring points:
-- along j k the heights k and k + 1 of aisle j, front j and back j the crossings of the aisles j and j + 1
pub data Edge : Type 0 where
  along : ℕ → ℕ → Edge
  front : ℕ → Edge
  back : ℕ → Edge

-- the end of an edge nearer to the front, or to the left
unfoldable pub start_of : Layout → Edge → Point
start_of z (along j k) = record { aisle = j; height = k }
start_of z (front j) = record { aisle = j; height = 0 }
start_of z (back j) = record { aisle = j; height = back_height z }

-- the other end
unfoldable pub end_of : Layout → Edge → Point
end_of z (along j k) = record { aisle = j; height = suc k }
end_of z (front j) = record { aisle = suc j; height = 0 }
end_of z (back j) = record { aisle = suc j; height = back_height z }

-- the edge joins the points x and y, either way
unfoldable pub Joins : Layout → Edge → Point → Point → Type 0
Joins z e x y = ((x ≡ start_of z e) × (y ≡ end_of z e)) ⊎ ((y ≡ start_of z e) × (x ≡ end_of z e))

-- the distance of an edge: in an aisle the difference of its ends' distances from the front, on a cross-aisle w
unfoldable pub distance : Layout → Edge → ℕ
distance z (along j k) = position z (suc k) - position z k
distance z (front j) = z.width
distance z (back j) = z.width

-- the edge is one of the store's
unfoldable pub InStore : Layout → Edge → Type 0
InStore z (along j k) = (1 ≤ j) × (j ≤ z.aisles) × (k ≤ z.cells)
InStore z (front j) = (1 ≤ j) × (j < z.aisles)
InStore z (back j) = (1 ≤ j) × (j < z.aisles)

-- all edges of the store, each once: aisle by aisle, then the front and the back cross-aisle
unfoldable pub edges_of : Layout → List Edge
edges_of z =
    concat_of (λ j. map (along j) (from 0 (suc z.cells))) (from 1 z.aisles)
    ++ (map front (from 1 (z.aisles - 1)) ++ map back (from 1 (z.aisles - 1)))

-- the store with other posts, and the depot at the side that they say
abbrev pub with_posts : Posts → Layout → Layout
with_posts posts z =
    record {
      aisles = z.aisles;
      cells = z.cells;
      front = z.front;
      pitch = z.pitch;
      back = z.back;
      width = z.width;
      depot = z.depot;
      posts = posts;
    }

-- a number from a to b
unfoldable pub within : ℕ → ℕ → ℕ → Bool
within a b n = leb a n && leb n b

-- the bounds of the posts' numbers, where they have a line: k 1 to 24; u 0 to 10
abbrev pub posts_in_bounds : Posts → Bool
posts_in_bounds NoPosts = true
posts_in_bounds (Every k u) = within 1 24 k && within 0 10 u
posts_in_bounds (Sided k u side) = within 1 24 k && within 0 10 u

-- the bounds of the layout's numbers: m 1 to 16; C 1 to 24; f and b 1 to 60; p 1 to 30; w 1 to 400; d 1 to m; and the posts
unfoldable pub layout_in_bounds : Layout → Bool
layout_in_bounds z =
    within 1 16 z.aisles
    && within 1 24 z.cells
    && within 1 60 z.front
    && within 1 30 z.pitch
    && within 1 60 z.back
    && within 1 400 z.width
    && within 1 z.aisles z.depot
    && posts_in_bounds z.posts

-- the same bounds, number by number; that the tests say so is proved (proofs/Admission): those of the posts
abbrev pub PostsWithin : Posts → Type 0
PostsWithin NoPosts = Unit {0}
PostsWithin (Every k u) = (1 ≤ k) × (k ≤ 24) × (u ≤ 10)
PostsWithin (Sided k u side) = (1 ≤ k) × (k ≤ 24) × (u ≤ 10)

-- and those of the whole layout
pub record LayoutWithin (z : Layout) : Type 0 where
  pub aisles : (1 ≤ z.aisles) × (z.aisles ≤ 16)
  pub cells : (1 ≤ z.cells) × (z.cells ≤ 24)
  pub front : (1 ≤ z.front) × (z.front ≤ 60)
  pub pitch : (1 ≤ z.pitch) × (z.pitch ≤ 30)
  pub back : (1 ≤ z.back) × (z.back ≤ 60)
  pub width : (1 ≤ z.width) × (z.width ≤ 400)
  pub depot : (1 ≤ z.depot) × (z.depot ≤ z.aisles)
  pub posts : PostsWithin z.posts

-- the same edge, as a test
unfoldable pub same_edge : Edge → Edge → Bool
same_edge (along i h) (along j k) = eqb i j && eqb h k
same_edge (along i h) (front j) = false
same_edge (along i h) (back j) = false
same_edge (front i) (along j k) = false
same_edge (front i) (front j) = eqb i j
same_edge (front i) (back j) = false
same_edge (back i) (along j k) = false
same_edge (back i) (front j) = false
same_edge (back i) (back j) = eqb i j

-- the same point, as a test
unfoldable pub same_point : Point → Point → Bool
same_point x y = eqb x.aisle y.aisle && eqb x.height y.height
