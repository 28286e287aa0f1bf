-- Wrong answers of `desk_line`, wherever the input lies.
use Rattle.std.specs.Prelude.{ℕ, ◌≢◌, Option, None, Some, List, [], ◌++◌, replicate}
use Rattle.desk_line.specs.declared.Question.{Question}
use Rattle.desk_line.specs.declared.TreeQuestion.{TreeQuestion}
use Rattle.desk_line.proofs.Text.shown.Reads as text_shown
use Rattle.desk_line.proofs.question_of.Reads as question-of
use Rattle.desk_line.proofs.tree_question_of.Reads as tree-question-of
use Rattle.desk_line.proofs.answer_line.Reads as answer_line
use Rattle.desk_line.proofs.tree_line.Reads as tree-line
use Rattle.wrong.specs.Never.{Never, Loan, ◌&◌, ◌lends◌}
use Rattle.wrong.specs.Examples.{ascii}

-- no line of the desk that is taken
abbrev pub none_asked : Option Question
none_asked = None

-- the same of `tree`
abbrev pub no_tree_asked : Option TreeQuestion
no_tree_asked = None

-- a line of `tree`: tree 0 of source 0 in the room of four ports and two levels, filled to m
abbrev pub tree_asked : ℕ → Option TreeQuestion
tree_asked m = Some (record { n = 4; k = 1; m = m; source = 0; tree = 0 })

pub record DeskLine (o : Loan) : Type 0 where
  -- ---- Text::shown, whatever part p it returns
  -- the zeros past the text's end shown too
  pub zeros_shown : (p : Loan) → Never text_shown.Post (o lends ascii "input\n" & tt) (p lends ascii "input\n" ++ replicate 122 0)
  -- the newline not shown
  pub newline_not_shown : (p : Loan) → Never text_shown.Post (o lends ascii "input\n" & tt) (p lends ascii "input")
  -- any other bytes
  pub other_bytes_shown : (p : Loan) (text bs : List ℕ) → bs ≢ text → Never text_shown.Post (o lends text & tt) (p lends bs)
  -- the right bytes, but not those of the text: a copy
  pub shown_elsewhere : (p : Loan) → p.place ≢ o.place → Never text_shown.Post (o lends ascii "input\n" & tt) (p lends ascii "input\n")
  -- ---- question_of
  -- source and destination exchanged
  pub ends_exchanged : Never question-of.Post (o lends ascii "8 3 1 521\n" & tt) (Some (record { n = 8; k = 3; source = 521; destination = 1 }))
  -- a number above 65,535 wraps
  pub number_wraps : Never question-of.Post (o lends ascii "65544 3 1 521\n" & tt) (Some (record { n = 8; k = 3; source = 1; destination = 521 }))
  -- two spaces taken for one
  pub two_spaces_taken : Never question-of.Post (o lends ascii "8  3 1 521\n" & tt) (Some (record { n = 8; k = 3; source = 1; destination = 521 }))
  -- what follows the newline not ignored
  pub rest_not_ignored : Never question-of.Post (o lends ascii "8 3 1 521\nrest" & tt) none_asked
  -- a line without its newline not taken
  pub newline_missed : Never question-of.Post (o lends ascii "8 3 1 521" & tt) none_asked
  -- the newline not counted: 64 bytes and a newline taken
  pub newline_not_counted : Never question-of.Post (o lends replicate 55 48 ++ ascii "8 3 1 521\n" & tt) (Some (record { n = 8; k = 3; source = 1; destination = 521 }))
  -- a fifth number taken for m
  pub five_numbers_taken : Never question-of.Post (o lends ascii "8 3 4 1 521\n" & tt) (Some (record { n = 8; k = 3; source = 1; destination = 521 }))
  -- ---- answer_line
  -- a zero byte taken for the end: 1 to 0 of (2,0), one hop by eight zero bytes
  pub zero_bytes_for_no_hops : Never answer_line.Post (o lends ascii "2 0 1 0\n" & tt) (ascii "0000000000000000 0\n")
  -- hex in upper case
  pub hex_upper_case : Never answer_line.Post (o lends ascii "8 3 1 521\n" & tt)
      (ascii "C141000000000000 2\n8141C18000000000 4\n41C1000000000000 2\n02C1410100000000 4\n")
  -- lower slots first
  pub lower_slots_first : Never answer_line.Post (o lends ascii "8 3 1 521\n" & tt)
      (ascii "02c1410100000000 4\n41c1000000000000 2\n8141c18000000000 4\nc141000000000000 2\n")
  -- a refusal answered as a line that is none
  pub refusal_is_input : Never answer_line.Post (o lends ascii "2 0 0 0\n" & tt) (ascii "input\n")
  -- 26 printed, m being forgotten
  pub twenty_six_printed : Never answer_line.Post (o lends ascii "8 3 1 521\n" & tt) (ascii "refused 26\n")
  -- 26 tested before 1: no ports
  pub fill_before_ports : Never answer_line.Post (o lends ascii "0 0 0 1\n" & tt) (ascii "refused 26\n")
  -- ---- tree_question_of
  -- m left out, as in the desk's line
  pub fill_left_out : Never tree-question-of.Post (o lends ascii "4 1 0 0\n" & tt) (tree_asked 4)
  -- n read for m
  pub ports_for_fill : Never tree-question-of.Post (o lends ascii "4 1 2 0 0\n" & tt) (tree_asked 4)
  -- m read from the end
  pub fill_last : Never tree-question-of.Post (o lends ascii "4 1 0 0 2\n" & tt) (tree_asked 2)
  -- a sixth number taken
  pub six_numbers_taken : Never tree-question-of.Post (o lends ascii "4 1 4 0 0 7\n" & tt) (tree_asked 4)
  -- a line that will be refused not taken: m = 1
  pub refused_not_taken : Never tree-question-of.Post (o lends ascii "4 1 1 0 0\n" & tt) no_tree_asked
  -- source and tree exchanged
  pub tree_before_source : Never tree-question-of.Post (o lends ascii "4 1 4 1 0\n" & tt) (Some (record { n = 4; k = 1; m = 4; source = 0; tree = 1 }))
  -- a number above 65,535 wraps
  pub tree_wraps : Never tree-question-of.Post (o lends ascii "4 1 4 0 65536\n" & tt) (tree_asked 4)
  -- ---- tree_line
  -- digit 0 first
  pub digit_0_first : Never tree-line.Post (tree_asked 4 & 4 & tt) (ascii "4 0.1 7 3.1\n")
  -- a child in the parent's place: the digit raised
  pub child_for_parent : Never tree-line.Post (tree_asked 4 & 1 & tt) (ascii "1 0.1 2 0.2\n")
  -- raised in place of lowered
  pub raised_for_lowered : Never tree-line.Post (tree_asked 4 & 4 & tt) (ascii "4 1.0 5 1.1\n")
  -- n for m at level k: tree 1 of 11 in (4,1,2)
  pub n_for_m : Never tree-line.Post (Some (record { n = 4; k = 1; m = 2; source = 5; tree = 1 }) & 1 & tt) (ascii "1 0.1 13 3.1\n")
  -- the order of the levels downwards: tree 0 of 000 in (2,2)
  pub levels_downwards : Never tree-line.Post (Some (record { n = 2; k = 2; m = 2; source = 0; tree = 0 }) & 7 & tt) (ascii "7 1.1.1 5 1.0.1\n")
  -- digits in hex: tree 0 of 0 in (16,1,2)
  pub digits_in_hex : Never tree-line.Post (Some (record { n = 16; k = 1; m = 2; source = 0; tree = 0 }) & 31 & tt) (ascii "31 1.f 15 0.f\n")
  -- the first pass one step further, so that the source has a parent
  pub source_has_a_parent : Never tree-line.Post (tree_asked 4 & 0 & tt) (ascii "0 0.0 3 0.3\n")
  -- the source left out
  pub source_left_out : Never tree-line.Post (tree_asked 4 & 0 & tt) (ascii "1 0.1 0 0.0\n")
  -- the source hangs from itself
  pub source_from_itself : Never tree-line.Post (tree_asked 4 & 0 & tt) (ascii "0 0.0 0 0.0\n")
  -- n in place of m at level 1: 16 lines in a room of 8 servers
  pub lines_past_the_room : Never tree-line.Post (tree_asked 2 & 8 & tt) (ascii "8 2.0 11 2.3\n")
  -- the last server left out
  pub last_left_out : Never tree-line.Post (tree_asked 4 & 15 & tt) []
  -- a refusal of two digits cut to one
  pub refusal_cut : Never tree-line.Post (tree_asked 1 & 0 & tt) (ascii "refused 2\n")
  -- a refusal on every line
  pub refused_again : Never tree-line.Post (tree_asked 1 & 1 & tt) (ascii "refused 26\n")
  -- 20 before 4: tree 2 of source 16
  pub tree_before_address : Never tree-line.Post (Some (record { n = 4; k = 1; m = 4; source = 16; tree = 2 }) & 0 & tt) (ascii "refused 20\n")
  -- a line that is none answered as a refusal of its zeros
  pub input_is_refusal : Never tree-line.Post (no_tree_asked & 0 & tt) (ascii "refused 1\n")
  -- "input" on every line
  pub input_again : Never tree-line.Post (no_tree_asked & 1 & tt) (ascii "input\n")
