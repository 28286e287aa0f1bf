-- `desk_line::tree_lines::server_line`: the server and its parent have room in a text with nothing in it.
use Rattle.std.proofs.Common.{ap, length, length-append, append_assoc, [], ◌∷◌, arith}
use Rattle.desk_line.specs.Lines.{space}
use Rattle.desk_line.specs.TreeLines.{server_words, parent_words, server_line}
use Rattle.desk_line.proofs.TreeLineLaws.{line-long}
use Rattle.desk_line.proofs.tree_lines.server_line.Goals as goal

pub push_server-requires-clause-room : goal.push_server-requires-clause-room
push_server-requires-clause-room c = omega (arith, line-long c.requires.link c.requires.there, ap length c.new-text.ensures)

pub push-requires : goal.push-requires
push-requires c =
    omega (arith, line-long c.requires.link c.requires.there, ap length c.new-text.ensures, ap length c.push_server.ensures, length-append c.new-text.result (server_words c.args.shape c.args.server))

pub push_parent-requires-clause-room : goal.push_parent-requires-clause-room
push_parent-requires-clause-room c =
    omega (arith, line-long c.requires.link c.requires.there, ap length c.new-text.ensures, ap length c.push_server.ensures, length-append c.new-text.result (server_words c.args.shape c.args.server), ap length c.push.ensures, length-append c.push_server.new.text (space ∷ []))

pub push-requires-2 : goal.push-requires-2
push-requires-2 c =
    omega (arith, line-long c.requires.link c.requires.there, ap length c.new-text.ensures, ap length c.push_server.ensures, length-append c.new-text.result (server_words c.args.shape c.args.server), ap length c.push.ensures, length-append c.push_server.new.text (space ∷ []), ap length c.push_parent.ensures, length-append c.push.new.self (parent_words c.args.shape c.args.source c.args.tree c.args.server))

pub returns : goal.returns
unfolding server_line
returns c =
    rw (c.push-2.ensures, c.push_parent.ensures, c.push.ensures, c.push_server.ensures, c.new-text.ensures) (simp append_assoc)
