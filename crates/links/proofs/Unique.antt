-- Each public function's contract determines its answer, and that of a call that writes to a table the bytes left there: whatever meets it on
-- some arguments is the one answer to them.
use mathlib.Core.Path.{◌∙◌, sym}
use Rattle.refusals.proofs.ReasonLaws.{told-same}
use Rattle.links.proofs.LinkLaws.{asked-same}
use Rattle.refusals.specs.Determined.{Determined, Leaves}
use Rattle.links.proofs.links.failed_link.Reads as failed_link
use Rattle.links.proofs.links.failed_link.Kinds as failed_link_kinds
use Rattle.links.proofs.changes.put.Reads as put
use Rattle.links.proofs.changes.put.Kinds as put_kinds
use Rattle.links.proofs.changes.mark.Reads as mark
use Rattle.links.proofs.changes.mark.Kinds as mark_kinds
use Rattle.links.proofs.changes.clear.Reads as clear
use Rattle.links.proofs.changes.clear.Kinds as clear_kinds
use Rattle.links.proofs.tables.is_failed.Reads as is_failed
use Rattle.links.proofs.tables.is_failed.Kinds as is_failed_kinds
use Rattle.links.proofs.tables.table_link_refusal.Reads as table-link-refusal
use Rattle.links.proofs.tables.table_link_refusal.Kinds as table_link_refusal_kinds
use Rattle.links.proofs.tables.table_server_refusal.Reads as table-server-refusal
use Rattle.links.proofs.tables.table_server_refusal.Kinds as table_server_refusal_kinds
use Rattle.links.proofs.tables.is_live.Reads as is_live
use Rattle.links.proofs.tables.is_live.Kinds as is_live_kinds
use Rattle.links.proofs.tables.table_refusal.Reads as table-refusal
use Rattle.links.proofs.tables.table_refusal.Kinds as table_refusal_kinds
use Rattle.links.proofs.tables.room_refusal.Reads as room-refusal
use Rattle.links.proofs.tables.room_refusal.Kinds as room_refusal_kinds

pub failed-link-unique : Determined 1 failed_link_kinds.ps failed_link_kinds.r failed_link.Post
failed-link-unique κs a x y s t e f = asked-same x y (e ∙ sym f)

pub put-leaves : Leaves 1 put_kinds.ps put_kinds.r put.Post (λ κs s. s.0.now)
put-leaves κs a x y s t e f = e ∙ sym f

pub mark-leaves : Leaves 1 mark_kinds.ps mark_kinds.r mark.Post (λ κs s. s.0.now)
mark-leaves κs a x y s t e f = e ∙ sym f

pub clear-leaves : Leaves 1 clear_kinds.ps clear_kinds.r clear.Post (λ κs s. s.0.now)
clear-leaves κs a x y s t e f = e ∙ sym f

pub is_live-unique : Determined 1 is_live_kinds.ps is_live_kinds.r is_live.Post
is_live-unique κs a x y s t e f = e ∙ sym f

pub table-refusal-unique : Determined 1 table_refusal_kinds.ps table_refusal_kinds.r table-refusal.Post
table-refusal-unique κs a x y s t e f = told-same x y (e ∙ sym f)

pub room-refusal-unique : Determined 1 room_refusal_kinds.ps room_refusal_kinds.r room-refusal.Post
room-refusal-unique κs a x y s t e f = told-same x y (e ∙ sym f)

pub is_failed-unique : Determined 1 is_failed_kinds.ps is_failed_kinds.r is_failed.Post
is_failed-unique κs a x y s t e f = e ∙ sym f

pub table-link-refusal-unique : Determined 1 table_link_refusal_kinds.ps table_link_refusal_kinds.r table-link-refusal.Post
table-link-refusal-unique κs a x y s t e f = told-same x y (e ∙ sym f)

pub table-server-refusal-unique : Determined 1 table_server_refusal_kinds.ps table_server_refusal_kinds.r table-server-refusal.Post
table-server-refusal-unique κs a x y s t e f = told-same x y (e ∙ sym f)
