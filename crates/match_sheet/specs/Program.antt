-- Program: what the parts of the sheet program promise. No contract can say which bytes a program reads and writes.
--
-- In order: slices with room; the text of an input. Assumes nothing.
use Rattle.std.specs.Prelude.{ℕ, ◌≤◌, Bool, true, false, ◌≡◌, List, length, take}
use Rattle.sheet.specs.SheetQuery.{sheet_listing, deciding_bytes}
use Rattle.sheet_pages.specs.SheetPages.{printed_pages, longest_pages}

-- n bytes of the input were read into a slice that holds those that decide; every text fits
pub record Room (out input : List ℕ) (n : ℕ) : Type 0 where
  pub read : n ≤ length input
  pub decides : deciding_bytes ≤ length input
  pub fits : longest_pages ≤ length out

-- pages, or a listing
unfoldable pub printed : Bool → List ℕ → List ℕ
printed true = printed_pages
printed false = sheet_listing

-- Whatever input has these bytes as its first `most`, or as all of its bytes where it has fewer, the first r bytes of the slice are its text.
pub record Prints (text : List ℕ → List ℕ) (most : ℕ) (bytes after : List ℕ) (r : ℕ) : Type 0 where
  pub inside : r ≤ length after
  pub prints : (input : List ℕ) → take most input ≡ bytes → take r after ≡ text input
