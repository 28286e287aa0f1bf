-- `desk_line::tree_lines::push_parent`: two dashes at the source, and the parent elsewhere.
use Rattle.std.proofs.Common.{ℕ, List, ◌++◌, ◌∙◌, sym, ap, length, arith}
use Rattle.desk_line.proofs.TreeLineLaws.{parent-given, parent-none, parent_words_is, parent-there}
use Rattle.desk_line.proofs.tree_lines.push_parent.Goals as goal

pub push_word-requires : goal.push_word-requires
push_word-requires c =
    omega (arith, c.requires.room, ap length (parent-none c.args.shape c.args.source c.args.tree c.args.server c.if-source-server.true))

pub returns-then-source-server : goal.returns-then-source-server
returns-then-source-server c =
    c.push_word.ensures
    ∙ ap (λ (l : List ℕ). c.args.text.now ++ l) (sym (parent-none c.args.shape c.args.source c.args.tree c.args.server c.if-source-server.true))

pub unreachable-requires : goal.unreachable-requires
unreachable-requires c = parent-given c.requires.link c.requires.there c.if-source-server.false _ c.in_default.ensures

pub push_server-requires-clause-room : goal.push_server-requires-clause-room
push_server-requires-clause-room c =
    omega (arith, c.requires.room, ap length (parent_words_is c.requires.link c.requires.there c.if-source-server.false _ c.in-Ok.ensures))

pub push_server-requires-clause-there : goal.push_server-requires-clause-there
push_server-requires-clause-there c = parent-there c.requires.link c.requires.there c.if-source-server.false _ c.in-Ok.ensures

pub returns-in-Ok : goal.returns-in-Ok
returns-in-Ok c =
    c.push_server.ensures
    ∙ ap (λ (l : List ℕ). c.args.text.now ++ l) (parent_words_is c.requires.link c.requires.there c.if-source-server.false _ c.in-Ok.ensures)
