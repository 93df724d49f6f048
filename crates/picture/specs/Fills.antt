-- Which of four fills a rectangle has, so that no two neighbours have one.
use Rattle.std.specs.Prelude.{ℕ, ◌+◌, ◌*◌, ◌%◌, ◌^◌, ◌<◌, ◌≡◌, Bool, ◌&&◌, Some, List, map, nat_eq, nat_lt, slice_get, unwrap_or}
use Rattle.std.specs.List.{count_by}
use Rattle.std.specs.List.Sorted.{IsNonDecreasing, IsPermutation}
use Rattle.picture.specs.declared.panels.Drawn.{Drawn}

-- the band of a rectangle: the place of its bus, or the lane of a self test
abbrev pub band : Drawn → ℕ
band d = unwrap_or d.test.bus d.rectangle.first

-- it is in a band, and starts before a cycle
abbrev pub is_earlier : (band cycle : ℕ) → Drawn → Bool
is_earlier b c d = nat_eq (band d) b && nat_lt d.rectangle.start c

-- how many rectangles of a band start before a cycle
abbrev pub earlier : List Drawn → (band cycle : ℕ) → ℕ
earlier drawn b c = count_by (is_earlier b c) drawn

-- one of two by the band, and of these one of two by the place in it
abbrev pub fill_by : (band place : ℕ) → ℕ
fill_by b place = 2 * (b % 2) + place % 2

-- the fill of one of these rectangles, by its band and its place there
abbrev pub fill_of : List Drawn → Drawn → ℕ
fill_of drawn d = fill_by (band d) (earlier drawn (band d) d.rectangle.start)

-- a band and a cycle as one number, in the order of the bands and then of the cycles
abbrev pub band_key : (band cycle : ℕ) → ℕ
band_key b c = b * 2 ^ 64 + c

abbrev pub start_key : Drawn → ℕ
start_key d = band_key (band d) d.rectangle.start

-- the keys of the starts of these rectangles, which are below 2 ^ 64
pub record AreStartKeys (drawn : List Drawn) (keys : List ℕ) : Type 0 where
  pub all : keys ≡ map start_key drawn
  pub small : (i : ℕ) (d : Drawn) → slice_get drawn i ≡ Some d → d.rectangle.start < 2 ^ 64

-- these keys, sorted
pub record AreStarts (drawn : List Drawn) (keys : List ℕ) : Type 0 where
  pub once : IsPermutation (map start_key drawn) keys
  pub sorted : IsNonDecreasing keys
  pub small : (i : ℕ) (d : Drawn) → slice_get drawn i ≡ Some d → d.rectangle.start < 2 ^ 64
