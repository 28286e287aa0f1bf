-- Each public function's contract determines its answer, and the bytes left in the table and in the summary: whatever meets it on some arguments
-- is the one answer to them.
use mathlib.Core.Path.{◌∙◌, sym}
use Rattle.refusals.specs.Determined.{Determined, Leaves}
use Rattle.summary.proofs.AnswerLaws.{dead-same, plain-same}
use Rattle.summary.proofs.marks.mark_link.Reads as mark-link
use Rattle.summary.proofs.marks.mark_link.Kinds as mark_link_kinds
use Rattle.summary.proofs.marks.clear_link.Reads as clear-link
use Rattle.summary.proofs.marks.clear_link.Kinds as clear_link_kinds
use Rattle.summary.proofs.marks.mark_server.Reads as mark-server
use Rattle.summary.proofs.marks.mark_server.Kinds as mark_server_kinds
use Rattle.summary.proofs.marks.clear_server.Reads as clear-server
use Rattle.summary.proofs.marks.clear_server.Kinds as clear_server_kinds
use Rattle.summary.proofs.dead.dead_switch.Reads as dead-switch
use Rattle.summary.proofs.dead.dead_switch.Kinds as dead_switch_kinds
use Rattle.summary.proofs.fresh.summarize.Reads as summarize
use Rattle.summary.proofs.fresh.summarize.Kinds as summarize_kinds

pub mark-link-unique : Determined 2 mark_link_kinds.ps mark_link_kinds.r mark-link.Post
mark-link-unique κs a x y s t e f = plain-same x y (e.0 ∙ sym f.0)

-- the table is its second parameter, the summary its third
pub mark_link_leaves : Leaves 2 mark_link_kinds.ps mark_link_kinds.r mark-link.Post (λ κs s. s.1.0.now)
mark_link_leaves κs a x y s t e f = e.1 ∙ sym f.1

pub mark_link_leaves_summary : Leaves 2 mark_link_kinds.ps mark_link_kinds.r mark-link.Post (λ κs s. s.1.1.0.now)
mark_link_leaves_summary κs a x y s t e f = e.2 ∙ sym f.2

pub clear-link-unique : Determined 2 clear_link_kinds.ps clear_link_kinds.r clear-link.Post
clear-link-unique κs a x y s t e f = plain-same x y (e.0 ∙ sym f.0)

-- the table is its second parameter, the summary its third
pub clear_link_leaves : Leaves 2 clear_link_kinds.ps clear_link_kinds.r clear-link.Post (λ κs s. s.1.0.now)
clear_link_leaves κs a x y s t e f = e.1 ∙ sym f.1

pub clear_link_leaves_summary : Leaves 2 clear_link_kinds.ps clear_link_kinds.r clear-link.Post (λ κs s. s.1.1.0.now)
clear_link_leaves_summary κs a x y s t e f = e.2 ∙ sym f.2

pub mark-server-unique : Determined 2 mark_server_kinds.ps mark_server_kinds.r mark-server.Post
mark-server-unique κs a x y s t e f = plain-same x y (e.0 ∙ sym f.0)

-- the table is its second parameter, the summary its third
pub mark_server_leaves : Leaves 2 mark_server_kinds.ps mark_server_kinds.r mark-server.Post (λ κs s. s.1.0.now)
mark_server_leaves κs a x y s t e f = e.1 ∙ sym f.1

pub mark_server_leaves_summary : Leaves 2 mark_server_kinds.ps mark_server_kinds.r mark-server.Post (λ κs s. s.1.1.0.now)
mark_server_leaves_summary κs a x y s t e f = e.2 ∙ sym f.2

pub clear-server-unique : Determined 2 clear_server_kinds.ps clear_server_kinds.r clear-server.Post
clear-server-unique κs a x y s t e f = plain-same x y (e.0 ∙ sym f.0)

-- the table is its second parameter, the summary its third
pub clear_server_leaves : Leaves 2 clear_server_kinds.ps clear_server_kinds.r clear-server.Post (λ κs s. s.1.0.now)
clear_server_leaves κs a x y s t e f = e.1 ∙ sym f.1

pub clear_server_leaves_summary : Leaves 2 clear_server_kinds.ps clear_server_kinds.r clear-server.Post (λ κs s. s.1.1.0.now)
clear_server_leaves_summary κs a x y s t e f = e.2 ∙ sym f.2

pub dead-switch-unique : Determined 2 dead_switch_kinds.ps dead_switch_kinds.r dead-switch.Post
dead-switch-unique κs a x y s t e f = dead-same x y (e ∙ sym f)

pub summarize-unique : Determined 2 summarize_kinds.ps summarize_kinds.r summarize.Post
summarize-unique κs a x y s t e f = plain-same x y (e.0 ∙ sym f.0)

-- the summary is its third parameter
pub summarize_leaves : Leaves 2 summarize_kinds.ps summarize_kinds.r summarize.Post (λ κs s. s.1.1.0.now)
summarize_leaves κs a x y s t e f = e.1 ∙ sym f.1
