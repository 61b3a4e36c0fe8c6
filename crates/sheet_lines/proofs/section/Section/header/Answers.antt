-- `sheet_lines::Section::header` meets its contract. Assumes nothing.
use Rattle.sheet_text.specs.Text.{bytes}
use Rattle.sheet_lines.specs.Reading.{headers}
use Rattle.sheet_lines.proofs.section.Section.header.Goals as goal

pub returns-in-Classes : goal.returns-in-Classes
unfolding headers bytes
returns-in-Classes c =
    rw (c.as_slice.ensures, c.in-Classes.is)

pub returns-in-Labels : goal.returns-in-Labels
unfolding headers bytes
returns-in-Labels c =
    rw (c.as_slice-in-Labels.ensures, c.in-Labels.is)

pub returns-in-Nodes : goal.returns-in-Nodes
unfolding headers bytes
returns-in-Nodes c =
    rw (c.as_slice-in-Nodes.ensures, c.in-Nodes.is)

pub returns-in-Edges : goal.returns-in-Edges
unfolding headers bytes
returns-in-Edges c =
    rw (c.as_slice-in-Edges.ensures, c.in-Edges.is)
