-- `sheet_lines::State::read_values` meets its contract. Assumes nothing.
use Rattle.sheet_lines.proofs.Steps.{taken_by, by-section}
use Rattle.sheet_lines.proofs.State.read_values.Goals as goal

pub returns-in-Classes : goal.returns-in-Classes
returns-in-Classes c =
    taken_by (by-section _ c.in-Classes.is) c.read_class.ensures

pub returns-in-Labels : goal.returns-in-Labels
returns-in-Labels c =
    taken_by (by-section _ c.in-Labels.is) c.read_label.ensures

pub returns-in-Nodes : goal.returns-in-Nodes
returns-in-Nodes c =
    taken_by (by-section _ c.in-Nodes.is) c.read_node.ensures

pub returns-in-Edges : goal.returns-in-Edges
returns-in-Edges c =
    taken_by (by-section _ c.in-Edges.is) c.read_edge.ensures
