-- Text that is put together where there is room for it.
use Rattle.std.specs.Prelude.{ℕ, ◌+◌, ◌≤◌, List, ◌++◌, length}

infixr 45 ◌&◌
-- one text after another
abbrev pub ◌&◌ : List ℕ → List ℕ → List ℕ
xs & ys = xs ++ ys

-- how many bytes a page holds
abbrev pub page_size : ℕ
page_size = 8192

-- how many bytes a line has at most
abbrev pub line_size : ℕ
line_size = 512

-- this number of bytes more fits on the page
abbrev pub HasRoom : List ℕ → ℕ → Type 0
HasRoom page more = length page + more ≤ page_size
