-- `rows::writer::make` meets its contract: the sizes are those of the row that is due, and the writer's promise on words is the course's.
-- Assumes nothing.
use borrow.Author.Rules.{rules}
use Rattle.rows.proofs.Writing.{due_children, pushed_wrote}
use Rattle.rows.proofs.writer.make.Goals as goal

pub sizes_of-requires : goal.sizes_of-requires
sizes_of-requires c = due_children _ _ _ _ _ c.requires.held c.requires.due

pub returns : goal.returns
returns c = pushed_wrote _ _ _ _ _ c.requires.held c.requires.due _ c.sizes_of.ensures (search rules) c.push.ensures
