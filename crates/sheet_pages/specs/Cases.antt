-- Cases: sheets as text, each with what the sheet program prints of its pages, line by line; and buffers of several lengths, with what the call
-- leaves in them.
--
-- In order: a case; the cases; buffers. Assumes nothing.
use Rattle.std.specs.Prelude.{ℕ, List, [], ◌∷◌, ◌++◌, replicate}
use Prim.Native.String.{String}
use Rattle.answers.specs.Verdict.{Verdict, accepted, refused}
use Rattle.sheet_layout.specs.Cases.{lines_text}
use Rattle.sheet_pages.specs.SheetPages.{Paged}

-- each line without its line feed
pub record Case : Type 0 where
  pub sheet : String
  pub lines : List String

unfoldable pub case : String → List String → Case
case s ls = record { sheet = s; lines = ls }

unfoldable pub sheets : List Case
sheets =
    -- rows; no rows
    case "class object\na 1\na 2\n\nlabel from to\nl 1 2\n\nnode class pick fixed\nx a 1 -\ny a 1 -\n\nedge source target\nl x y\n"
    ("            x            y                                       "
    ∷ "            1            2                                       "
    ∷ "                                                           page 1"
    ∷ [])
    ∷ case "class object\na 1\na 2\n\nlabel from to\nl 1 2\n\nnode class pick fixed\nx a 1 -\ny a 1 -\n\nedge source target\nl x y\nl y x\n"
    ("            x            y                                       "
    ∷ "                                                           page 1"
    ∷ [])
    -- a fixed node (document 02, E4)
    ∷ case "class object\na 1\na 2\n\nlabel from to\n\nnode class pick fixed\nx a 1 -\ny a 1 2\n\nedge source target\n"
    ("            x            y                                       "
    ∷ "            1            2                                       "
    ∷ "            2            2                                       "
    ∷ "                                                           page 1"
    ∷ [])
    -- more than five nodes picked, and five
    ∷ case "class object\na 1\n\nlabel from to\n\nnode class pick fixed\nu a 1 -\nv a 1 -\nw a 1 -\nx a 1 -\ny a 1 -\nz a 1 -\n\nedge source target\n" ("refused 15 0" ∷ [])
    ∷ case "class object\na 7\n\nlabel from to\n\nnode class pick fixed\nu a 1 -\nv a 1 -\nw a 1 -\nx a 1 -\ny a 1 -\nz a 0 -\n\nedge source target\n"
    ("            u            v            w            x            y"
    ∷ "            7            7            7            7            7"
    ∷ "                                                           page 1"
    ∷ [])
    -- 15 just after 7: a breach, the feed and the drawing come before it
    ∷ case "class object\na 1\n\nlabel from to\n\nnode class pick fixed\nu a 1 -\nv a 1 -\nw a 1 -\nx a 1 -\ny a 1 -\nz a 1 -\nz b 1 -\n\nedge source target\n" ("refused 14 13" ∷ [])
    ∷ case "class object\na 2\na 1\n\nlabel from to\n\nnode class pick fixed\nu a 1 -\nv a 1 -\nw a 1 -\nx a 1 -\ny a 1 -\nz a 1 -\n\nedge source target\n" ("refused 3 5" ∷ [])
    ∷ case "class object\na 1\n\nlabel from to\n\nnode class pick fixed\nu a 1 -\nv a 1 -\nw a 1 -\nx a 1 -\ny a 1 -\nz a 1 -\nt a 2 -\n\nedge source target\n" ("refused 6 21" ∷ [])
    ∷ []

-- ---- buffers

-- a buffer of so many bytes, all of them 7, and what the call leaves
pub record Buffer : Type 0 where
  pub sheet : String
  pub room : ℕ
  pub after : Paged

unfoldable pub buffer : String → ℕ → Verdict → ℕ → List ℕ → Buffer
buffer s n v l bs = record { sheet = s; room = n; after = record { verdict = v; length' = l; buffer = bs } }

-- one page of two lines, 132 bytes: exactly, one too short, one too long; a refusal that is not 12
unfoldable pub buffers : List Buffer
buffers =
    let sheet : String = "class object\na 1\n\nlabel from to\nl 2 2\n\nnode class pick fixed\nx a 1 -\n\nedge source target\nl x x\n" in
    let text : List ℕ = lines_text
    ("            x                                                    "
    ∷ "                                                           page 1"
    ∷ []) in
    buffer sheet 132 accepted 132 text
    ∷ buffer sheet 131 (refused 12 0) 0 (replicate 131 0)
    ∷ buffer sheet 133 accepted 132 (text ++ (7 ∷ []))
    ∷ buffer "" 3 (refused 14 1) 0 (7 ∷ 7 ∷ 7 ∷ [])
    ∷ []
