-- Layouts: every layout of `Cases` has the lines stated for it, and pages of many rows the lengths, and are read back, by computation. Assumes nothing.
use mathlib.Core.Path.{◌≡◌, refl}
use mathlib.Core.List.{[], ◌∷◌, map, flat_map}
use lib.ListN.{length}
use Rattle.tables.specs.Lists.{keep, all, count, below}
use Rattle.sheet_text.specs.Text.{bytes, within, no_leading_zero, is_number, value_from, value_of, digits_before, digits}
use Rattle.sheet_writer.specs.Parts.{parts_within, parts_of}
use Rattle.sheet_layout.specs.Pages.{set_right, column_line, row_line, number_line, page, pages_from, pages}
use Rattle.sheet_layout.specs.ReadBack.{unspaced, columns, row_in, read_back}
use Rattle.sheet_layout.specs.Cases.{layout, lines_text, layouts, singles, size, sizes}

pub as-stated : map (λ l. pages (map bytes l.names) l.rows) layouts ≡ map (λ l. lines_text l.lines) layouts
unfolding flat_map bytes digits_before digits parts_within parts_of set_right column_line row_line number_line page pages_from pages layout lines_text layouts
as-stated = refl

pub sizes-stated : map (λ s. length (pages (bytes "a" ∷ []) (singles s.rows))) sizes ≡ map (λ s. s.bytes) sizes
unfolding flat_map count below bytes digits_before digits parts_within parts_of set_right column_line row_line number_line page pages_from pages singles size sizes
sizes-stated = refl

pub rows-stated : map (λ s. read_back (pages (bytes "a" ∷ []) (singles s.rows))) sizes ≡ map (λ s. singles s.rows) sizes
unfolding flat_map keep all count below bytes within no_leading_zero is_number value_from value_of digits_before digits parts_within parts_of set_right column_line row_line number_line page pages_from pages unspaced
    columns row_in read_back singles size sizes
rows-stated = refl
