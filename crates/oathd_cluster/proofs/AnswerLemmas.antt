-- Lines are answered one after another.
use Rattle.std.proofs.Common.{◌≡◌, ℕ, ◌+◌, List, [], ◌∷◌, ◌++◌, length, take, Option, Some, None, IfSome, refl, sym, ap, subst, ◌∙◌}
use Rattle.std.specs.Prelude.{Result, Ok, Err, IsErrAnd}
use Rattle.std.specs.Io.KnownBytes.{Appends}
use Rattle.std.proofs.KnownBytes.{Appends-nil, Appends-trans}
use Rattle.std.proofs.Math.Seq.{take-append_seam}
use Rattle.std.proofs.lemmas.List.Concat.{flat_map-append}
use Rattle.std.proofs.lemmas.List.{append-nil, append_assoc, map-append}
use Rattle.program_edge.specs.Line.{line_of}
use Rattle.users_input.specs.Input.{TakesLine, line_text, lines_of}
use Rattle.users_input.specs.declared.fault.InputFault.{InputFault}
use Rattle.users_input.specs.declared.fault.InputFault.TheVariants as input
use Rattle.users_input.specs.declared.input.NextLine.TheVariants.{Whole, Cut, End}
use Rattle.users_input.proofs.LineLemmas.{lines_none}
use Rattle.oathd_cluster.specs.Fault.{input_fault_of}
use Rattle.oathd_cluster.specs.Line.{LinesRead, NodeLine, node_line_of, node_lines, with_line}
use Rattle.oathd_cluster.specs.Rounds.{IsOfRounds}
use Rattle.oathd_cluster.specs.Run.{EndsSo, IsBehindUsers, Reply, WritesFirst, WritesReplies, printed, reply_text}
use Rattle.oathd_cluster.specs.declared.fault.Fault.{Fault}
use Rattle.oathd_cluster.specs.declared.fault.Fault.TheVariants as fault

-- what is so of an end with a fault, of which something is known
pub end_by : {T E : Type 0} (r : Result T E) (x : E) (P : Result T E → Type 0) → IsErrAnd r (λ y. y ≡ x) → P (Err x) → P r
end_by (Ok one) x P h p = absurd h
end_by (Err y) x P h p = subst (λ z. P (Err z)) (sym h) p

-- ---- What is written

pub nothing_written : (out : Option (List ℕ)) → WritesReplies [] out out
nothing_written out = record { replies = []; each = refl; written = Appends-nil out }

printed_more : (done : List Reply) (reply : Reply) → printed (done ++ reply ∷ []) ≡ printed done ++ line_of (reply_text reply)
printed_more done reply =
    flat_map-append (λ (r : Reply). line_of (reply_text r)) done (reply ∷ [])
    ∙ ap (λ (l : List ℕ). printed done ++ l) (append-nil (line_of (reply_text reply)))

-- one line more has its reply
writes_more : (lines : List NodeLine) (line : NodeLine) (text : List ℕ) (old mid new : Option (List ℕ)) → WritesReplies lines old mid
    → Appends mid new (line_of (reply_text (record { node = line.node; text = text }))) → WritesReplies (lines ++ line ∷ []) old new
writes_more lines line text old mid new h written =
    let reply : Reply = record { node = line.node; text = text } in
    record {
      replies = h.replies ++ reply ∷ [];
      each = map-append (λ (r : Reply). r.node) h.replies (reply ∷ [])
          ∙ ap (λ (ns : List ℕ). ns ++ line.node ∷ []) h.each ∙ sym (map-append (λ (l : NodeLine). l.node) lines (line ∷ []));
      written = subst (Appends old new) (sym (printed_more h.replies reply))
          (Appends-trans old mid new (printed h.replies) (line_of (reply_text reply)) h.written written);
    }

-- ---- Before the line of a number

-- the first lines have their replies, and those that are left are the rest of these
pub record IsAnswering (nodes : ℕ) (all : LinesRead) (number room : ℕ) (left old new : Option (List ℕ)) : Type 0 where
  pub text : List ℕ
  pub left_is : left ≡ Some text
  pub done : List NodeLine
  pub writes : WritesReplies done old new
  pub good_is : done ++ (node_lines nodes number (lines_of room text)).good ≡ all.good
  pub bad_is : (node_lines nodes number (lines_of room text)).bad ≡ all.bad

pub answering_start : (nodes number room : ℕ) (left out : Option (List ℕ))
    → IfSome left (λ text. IsAnswering nodes (node_lines nodes number (lines_of room text)) number room left out out)
answering_start nodes number room None out = tt
answering_start nodes number room (Some text) out = record {
  text = text;
  left_is = refl;
  done = [];
  writes = nothing_written out;
  good_is = refl;
  bad_is = refl;
}

module _ (nodes : ℕ) (all : LinesRead) (number room : ℕ) (left old : Option (List ℕ)) where
  pub answering_next : (mid : Option (List ℕ)) (h : IsAnswering nodes all number room left old mid) (line : List ℕ) (room' : ℕ)
      (left' : Option (List ℕ)) → IfSome left (λ text. TakesLine Whole line room text room' left') → (l : NodeLine)
      → Some l ≡ node_line_of nodes (line_text line) → (reply : List ℕ) (new : Option (List ℕ))
      → Appends mid new (line_of (reply_text (record { node = l.node; text = reply })))
      → IsAnswering nodes all (number + 1) room' left' old new
  answering_next mid h line room' left' takes l is reply new written =
      let k : TakesLine Whole line room h.text room' left' = subst (λ (o : Option (List ℕ)). IfSome o (λ text. TakesLine Whole line room text room' left')) h.left_is takes in
      let rest = node_lines nodes (number + 1) (lines_of room' k.rest) in
      let read : node_lines nodes number (lines_of room h.text) ≡ record { good = l ∷ rest.good; bad = rest.bad } =
      ap (node_lines nodes number) k.next.0 ∙ ap (λ (o : Option NodeLine). with_line number o rest) (sym is) in
      record {
        text = k.rest;
        left_is = k.remaining_is;
        done = h.done ++ l ∷ [];
        writes = writes_more h.done l reply old mid new h.writes written;
        good_is = append_assoc h.done (l ∷ []) rest.good ∙ ap (λ (r : LinesRead). h.done ++ r.good) (sym read) ∙ h.good_is;
        bad_is = sym (ap (λ (r : LinesRead). r.bad) read) ∙ h.bad_is;
      }

  -- no line that is left is good
  ends_with : (new : Option (List ℕ)) (h : IsAnswering nodes all number room left old new) (end : Option ℕ)
      → node_lines nodes number (lines_of room h.text) ≡ record { good = []; bad = end } → (all.bad ≡ end) × WritesReplies all.good old new
  ends_with new h end read =
      let whole : h.done ≡ all.good =
      sym (append-nil h.done) ∙ ap (λ (r : LinesRead). h.done ++ r.good) (sym read) ∙ h.good_is in
      (sym h.bad_is ∙ ap (λ (r : LinesRead). r.bad) read, subst (λ (ls : List NodeLine). WritesReplies ls old new) whole h.writes)

  pub ends_all : (new : Option (List ℕ)) (h : IsAnswering nodes all number room left old new) (line : List ℕ) (room' : ℕ) (left' : Option (List ℕ))
      → IfSome left (λ text. TakesLine End line room text room' left') → EndsSo all (Ok tt) old new
  ends_all new h line room' left' takes =
      let k : TakesLine End line room h.text room' left' = subst (λ (o : Option (List ℕ)). IfSome o (λ text. TakesLine End line room text room' left')) h.left_is takes in
      ends_with new h None (ap (node_lines nodes number) (ap (lines_of room) k.next ∙ lines_none room))

  pub ends_cut : (new : Option (List ℕ)) (h : IsAnswering nodes all number room left old new) (line : List ℕ) (room' : ℕ) (left' : Option (List ℕ))
      → IfSome left (λ text. TakesLine Cut line room text room' left') → EndsSo all (Err (fault.InputLine number)) old new
  ends_cut new h line room' left' takes =
      let k : TakesLine Cut line room h.text room' left' = subst (λ (o : Option (List ℕ)). IfSome o (λ text. TakesLine Cut line room text room' left')) h.left_is takes in
      ends_with new h (Some number) (ap (node_lines nodes number) k.next.0)

  pub ends_bad : (new : Option (List ℕ)) (h : IsAnswering nodes all number room left old new) (line : List ℕ) (room' : ℕ) (left' : Option (List ℕ))
      → IfSome left (λ text. TakesLine Whole line room text room' left') → None ≡ node_line_of nodes (line_text line)
      → EndsSo all (Err (fault.InputLine number)) old new
  ends_bad new h line room' left' takes is =
      let k : TakesLine Whole line room h.text room' left' = subst (λ (o : Option (List ℕ)). IfSome o (λ text. TakesLine Whole line room text room' left')) h.left_is takes in
      ends_with new h (Some number) (ap (node_lines nodes number) k.next.0
      ∙ ap (λ (o : Option NodeLine). with_line number o (node_lines nodes (number + 1) (lines_of room' k.rest))) (sym is))

  writes_first : (new : Option (List ℕ)) → IsAnswering nodes all number room left old new → WritesFirst all.good old new
  writes_first new h =
      let rest = (node_lines nodes number (lines_of room h.text)).good in
      let first : take (length h.done) all.good ≡ h.done = ap (take (length h.done)) (sym h.good_is) ∙ take-append_seam h.done rest in
      record {
        count = length h.done;
        writes = subst (λ (ls : List NodeLine). WritesReplies ls old new) (sym first) h.writes;
      }

  -- the input failed
  pub ends_failed : (new : Option (List ℕ)) → IsAnswering nodes all number room left old new → (f : InputFault)
      → EndsSo all (Err (input_fault_of f)) old new
  ends_failed new h input.Memory = writes_first new h
  ends_failed new h input.CannotRead = writes_first new h

  -- a socket or a node failed
  pub ends_rounds : (new : Option (List ℕ)) → IsAnswering nodes all number room left old new → (f : Fault) → IsOfRounds f
      → EndsSo all (Err f) old new
  ends_rounds new h fault.Memory of = absurd of
  ends_rounds new h fault.CannotRead of = absurd of
  ends_rounds new h fault.CannotWrite of = absurd of
  ends_rounds new h (fault.Users f) of = absurd of
  ends_rounds new h (fault.InputLine n) of = absurd of
  ends_rounds new h fault.Socket of = writes_first new h
  ends_rounds new h (fault.Node f) of = writes_first new h

-- ---- the faults after the users file

pub input_behind : (f : InputFault) → IsBehindUsers (input_fault_of f)
input_behind input.Memory = tt
input_behind input.CannotRead = tt

pub rounds_behind : (f : Fault) → IsOfRounds f → IsBehindUsers f
rounds_behind fault.Memory of = absurd of
rounds_behind fault.CannotRead of = absurd of
rounds_behind fault.CannotWrite of = absurd of
rounds_behind (fault.Users f) of = absurd of
rounds_behind (fault.InputLine n) of = absurd of
rounds_behind fault.Socket of = tt
rounds_behind (fault.Node f) of = tt
