-- What only contracts of inner functions and proofs say: a row that gives a link, a table with an edge, and the links as arrays hold them.
use Rattle.std.specs.Prelude.{ℕ, ◌*◌, ◌≤◌, ◌<◌, ◌+◌, cond, List, map, ◌≡◌, T, eqb, length, get_or, take}
use Rattle.lists.specs.Lists.{those, numbers_from}
use Rattle.rows.specs.declared.Row.{Row}
use Rattle.rows.specs.declared.Regions.{Regions}
use Rattle.rows.specs.declared.Regions.TheVariants.{One}
use Rattle.rows.specs.Rows.{rows_at, row_size, row_in, rows_in, holds_edge}
use Rattle.rows.specs.Steps.{with_region}
use Rattle.mesh.specs.Mesh.{numbers_fit, keeps_mesh_rule}
use Rattle.layout.specs.Layout.{max_rows}
use Rattle.links.specs.declared.Links.{Links}
use Rattle.links.specs.Links.{Link, links_of}

-- where the rows that hold both ends stand among the first n of a table
abbrev pub places_of : ℕ → ℕ → List ℕ → ℕ → List ℕ
places_of a b table n = those (λ i. holds_edge a b (row_in table i)) (numbers_from 0 n)

-- what follows b in the face x, y, z, turned round to begin with b
abbrev pub following : ℕ → ℕ → ℕ → ℕ → Link
following x y z b = cond (eqb b x) (y, z) (cond (eqb b y) (z, x) (x, y))

-- A row that gives a link: its numbers are below some count and all different, and it holds both ends.
pub record LinkedRow (a b : ℕ) (row : Row) : Type 0 where
  pub count : ℕ
  pub fits : T (numbers_fit count row)
  pub apart : a ≡ b → ⊥
  pub held : T (holds_edge a b row)

-- A table of n rows that keeps the mesh rule for some point count, and the ends of an edge in order.
pub record Table (table : List ℕ) (n a b : ℕ) : Type 0 where
  pub room : rows_at + row_size * n ≤ length table
  pub few : n ≤ max_rows
  pub count : ℕ
  pub rule : T (keeps_mesh_rule count (rows_in table n))
  pub order : a < b

-- the links in two of the arrays, the starts and the ends
unfoldable pub links_in : Links → List Link
links_in links = map (λ i. (get_or links.starts i 0, get_or links.ends i 0)) (numbers_from 0 links.n)

-- the places in the third, of the rows that give the links
abbrev pub places_in : Links → List ℕ
places_in links = take links.n links.places

-- The rows that hold both ends, among the first so many of a table, as the code keeps them: their links and their places.
pub record Around (table : List ℕ) (a b : ℕ) (links : Links) : Type 0 where
  pub rows : ℕ
  pub meshed : Table table rows a b
  pub few : links.n ≤ max_rows
  pub linked : links_in links ≡ links_of a b (rows_in table rows)
  pub placed : places_in links ≡ places_of a b table rows

-- the regions of n rows, with one row more
abbrev pub joined_with : ℕ → Regions → ℕ → Regions
joined_with n regions region = cond (eqb n 0) (One region) (with_region regions region)
