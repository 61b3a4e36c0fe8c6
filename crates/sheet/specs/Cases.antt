-- Cases: sheets as text, each with the listing that document 01, or a request of document 02, fixes for it. Document 01's own sheet is among the
-- starred cases. Assumes nothing.
use Rattle.std.specs.Prelude.{List, [], ◌∷◌}
use Prim.Native.String.{String}

pub record Case : Type 0 where
  pub sheet : String
  pub listing : String

unfoldable pub case : String → String → Case
case s l = record { sheet = s; listing = l }

unfoldable pub sheets : List Case
sheets =
    -- classes are numbered by first appearance, and their lines regrouped; no rows print the names only
    case "class object\nb 1\na 2\nb 3\n\nlabel from to\n\nnode class pick fixed\nx b 1 -\n\nedge source target\n" "x\n1\n3\n"
    ∷ case "class object\na 1\n\nlabel from to\nl 2 2\n\nnode class pick fixed\nx a 1 -\n\nedge source target\nl x x\n" "x\n"
    -- a missing line is the one after the last; a last line without its line feed; a name line that is not the one shown
    ∷ case "" "refused 14 1\n"
    ∷ case "class object" "refused 14 1\n"
    ∷ case "class object\na 1\n\nlabel from to\n\nnode class pick fixed\nx a 1 -\n" "refused 14 8\n"
    ∷ case "class object\n\nnode class pick fixed\n" "refused 14 3\n"
    -- a leading zero; a name of 13 letters; two spaces; an unknown class; a doubled node; an unknown label
    ∷ case "class object\na 01\n" "refused 14 2\n"
    ∷ case "class object\nabcdefghijklm 1\n" "refused 14 2\n"
    ∷ case "class object\na  1\n" "refused 14 2\n"
    ∷ case "class object\na 1\n\nlabel from to\n\nnode class pick fixed\nx c 1 -\n" "refused 14 7\n"
    ∷ case "class object\na 1\n\nlabel from to\n\nnode class pick fixed\nx a 1 -\nx a 0 -\n" "refused 14 8\n"
    ∷ case "class object\na 1\n\nlabel from to\n\nnode class pick fixed\nx a 1 -\n\nedge source target\nl x x\n" "refused 14 10\n"
    -- E1, "A label both with and without its star is 14": at the first line that parts from those before it, be it an edge's
    ∷ case "class object\na 1\n\nlabel from to\nl* 1 1\nl 1 2\n" "refused 14 6\n"
    ∷ case "class object\na 1\n\nlabel from to\nl 1 1\nl* 1 2\n" "refused 14 6\n"
    ∷ case "class object\na 1\n\nlabel from to\nl* 1 1\n\nnode class pick fixed\nx a 1 -\n\nedge source target\nl x x\n" "refused 14 11\n"
    ∷ case "class object\na 1\n\nlabel from to\nl 1 1\n\nnode class pick fixed\nx a 1 -\n\nedge source target\nl* x x\n" "refused 14 11\n"
    -- twelve letters and a star; two stars; a star alone; a star on a class, on a node
    ∷ case "class object\na 1\n\nlabel from to\nabcdefghijkl* 1 1\n\nnode class pick fixed\nx a 1 -\n\nedge source target\nabcdefghijkl* x x\n" "x\n1\n"
    ∷ case "class object\na 1\n\nlabel from to\nl** 1 1\n" "refused 14 5\n"
    ∷ case "class object\na 1\n\nlabel from to\n* 1 1\n" "refused 14 5\n"
    ∷ case "class object\na* 1\n" "refused 14 2\n"
    ∷ case "class object\na 1\n\nlabel from to\n\nnode class pick fixed\nx* a 1 -\n" "refused 14 7\n"
    -- E4, "with `-` or 65536 for any": any object; one of the class; one that is not
    ∷ case "class object\na 1\na 2\n\nlabel from to\n\nnode class pick fixed\nx a 1 65536\n\nedge source target\n" "x\n1\n2\n"
    ∷ case "class object\na 1\na 2\n\nlabel from to\n\nnode class pick fixed\nx a 1 2\n\nedge source target\n" "x\n2\n"
    ∷ case "class object\na 1\na 2\n\nlabel from to\n\nnode class pick fixed\nx a 1 3\n\nedge source target\n" "x\n"
    -- three fields, and five; an empty field; two dashes; a leading zero; six digits; a dash as a pick, as a class, as a node
    ∷ case "class object\na 1\na 2\n\nlabel from to\n\nnode class pick fixed\nx a 1\n" "refused 14 8\n"
    ∷ case "class object\na 1\na 2\n\nlabel from to\n\nnode class pick fixed\nx a 1 - -\n" "refused 14 8\n"
    ∷ case "class object\na 1\na 2\n\nlabel from to\n\nnode class pick fixed\nx a 1 \n" "refused 14 8\n"
    ∷ case "class object\na 1\na 2\n\nlabel from to\n\nnode class pick fixed\nx a 1 --\n" "refused 14 8\n"
    ∷ case "class object\na 1\na 2\n\nlabel from to\n\nnode class pick fixed\nx a 1 02\n" "refused 14 8\n"
    ∷ case "class object\na 1\na 2\n\nlabel from to\n\nnode class pick fixed\nx a 1 100000\n" "refused 14 8\n"
    ∷ case "class object\na 1\na 2\n\nlabel from to\n\nnode class pick fixed\nx a - -\n" "refused 14 8\n"
    ∷ case "class object\na 1\na 2\n\nlabel from to\n\nnode class pick fixed\nx - 1 -\n" "refused 14 8\n"
    ∷ case "class object\na 1\na 2\n\nlabel from to\n\nnode class pick fixed\n- a 1 -\n" "refused 14 8\n"
    -- a dash as an object; the name line without `fixed`
    ∷ case "class object\na -\n" "refused 14 2\n"
    ∷ case "class object\na 1\n\nlabel from to\nl 1 -\n" "refused 14 5\n"
    ∷ case "class object\na 1\n\nlabel from to\n\nnode class pick\nx a 1 -\n" "refused 14 6\n"
    -- what the derived feed and drawing refuse
    ∷ case "class object\na 2\na 1\n\nlabel from to\n\nnode class pick fixed\nx a 1 -\n\nedge source target\n" "refused 3 5\n"
    ∷ case "class object\na 65536\n\nlabel from to\n\nnode class pick fixed\nx a 1 -\n\nedge source target\n" "refused 3 3\n"
    ∷ case "class object\na 1\n\nlabel from to\n\nnode class pick fixed\nx a 2 -\n\nedge source target\n" "refused 6 3\n"
    ∷ case "class object\na 1\n\nlabel from to\n\nnode class pick fixed\nx a 1 65537\n\nedge source target\n" "refused 6 4\n"
    ∷ case "class object\na 1\n\nlabel from to\n\nnode class pick fixed\nx a 1 99999\n\nedge source target\n" "refused 6 4\n"
    ∷ case "class object\na 1\n\nlabel from to\n\nnode class pick fixed\nx a 0 -\n\nedge source target\n" "refused 7 0\n"
    ∷ []
