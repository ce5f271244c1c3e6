use Rattle.run_history.proofs.Room.{drawn_within, has_room}
use Rattle.run_history.proofs.laws.operations_draw_their_shares.Goals as goal

pub returns-clause-drawn : goal.returns-clause-drawn
returns-clause-drawn c past o base count h k f by fits = drawn_within past o base count h k f by fits

pub returns-clause-room : goal.returns-clause-room
returns-clause-room c past o base count h k f by fits = has_room past o base count h k f by fits
