-- Cases: names and rows, with the pages that document 02's E2 fixes for them, line by line; and the lengths of pages of many rows.
--
-- In order: a layout; the layouts; so many rows; the lengths. Assumes nothing.
use Rattle.std.specs.Prelude.{ℕ}
use Prim.Native.String.{String}
use mathlib.Core.List.{List, [], ◌∷◌, ◌++◌, map, flat_map}
use Rattle.tables.specs.Lists.{below}
use Rattle.sheet_text.specs.Text.{bytes}

-- each line without its line feed
pub record Layout : Type 0 where
  pub names : List String
  pub rows : List (List ℕ)
  pub lines : List String

unfoldable pub layout : List String → List (List ℕ) → List String → Layout
layout ns rs ls = record { names = ns; rows = rs; lines = ls }

-- lines as text, each with its line feed
unfoldable pub lines_text : List String → List ℕ
lines_text ls = flat_map (λ l. bytes l ++ (10 ∷ [])) ls

unfoldable pub layouts : List Layout
layouts =
    -- no rows make one page of two lines
    layout ("a" ∷ []) ([])
    ("            a                                                    "
    ∷ "                                                           page 1"
    ∷ [])
    -- names and numbers set right, spaces after the last column
    ∷ layout ("a" ∷ "b" ∷ []) ((1 ∷ 3 ∷ []) ∷ (2 ∷ 65535 ∷ []) ∷ [])
    ("            a            b                                       "
    ∷ "            1            3                                       "
    ∷ "            2        65535                                       "
    ∷ "                                                           page 1"
    ∷ [])
    -- five columns, names of 1 and of 12 letters
    ∷ layout ("abcdefghijkl" ∷ "b" ∷ "c" ∷ "d" ∷ "mnopqrstuvwx" ∷ []) ((0 ∷ 10 ∷ 100 ∷ 1000 ∷ 10000 ∷ []) ∷ [])
    (" abcdefghijkl            b            c            d mnopqrstuvwx"
    ∷ "            0           10          100         1000        10000"
    ∷ "                                                           page 1"
    ∷ [])
    ∷ []

-- n rows of one object each
unfoldable pub singles : ℕ → List (List ℕ)
singles n = map (λ x. x ∷ []) (below n)

-- so many rows, and the bytes of their pages: 66 a line
pub record Size : Type 0 where
  pub rows : ℕ
  pub bytes : ℕ

unfoldable pub size : ℕ → ℕ → Size
size n k = record { rows = n; bytes = k }

unfoldable pub sizes : List Size
sizes = size 0 132 ∷ size 1 198 ∷ size 49 3366 ∷ size 50 3432 ∷ size 51 3630 ∷ size 100 6864 ∷ size 101 7062 ∷ []
