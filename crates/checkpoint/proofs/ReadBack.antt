-- The text of a mark is that of its object, and the mark is found again in it.
use Rattle.std.proofs.Common.{◌≡◌, ℕ, false, List, Some, refl, arith}
use Rattle.bus_types.proofs.CursorTexts.{cursor_again}
use Rattle.serde_json.specs.Data.{Data, no_members}
use Rattle.serde_json.specs.Written.{has_float, compact_text}
use Rattle.json_forms.specs.Objects.{AreMembers, members_data, object_text, put_all, ObjectForm}
use Rattle.json_forms.proofs.ObjectTexts.{in_pieces-is, written_value, one_value}
use Rattle.checkpoint.specs.declared.mark.Mark.{Mark}
use Rattle.checkpoint.specs.declared.mark.Mark.TheVariants.{Online, Delta, Snapshot, Scanned, Catchup}
use Rattle.checkpoint.specs.Mark.{IsMark, mark_text}
use Rattle.checkpoint.specs.Members.{mark_members, data_of, online_in, delta_in, snapshot_in, scanned_in, catchup_in, mode_in, mark_in}
use Rattle.checkpoint.proofs.Cursors.{plain-cursor_text}

pub spelled : (mark : Mark) → mark_text mark ≡ object_text (mark_members mark)
spelled (Online scn) = in_pieces-is (mark_members (Online scn))
spelled mark = in_pieces-is (mark_members mark)

members_are : (mark : Mark) → IsMark mark → AreMembers (mark_members mark)
members_are (Online scn) h = ((refl, refl), ((refl, omega arith), tt))
members_are (Delta since target cursor) h = ((refl, plain-cursor_text cursor h.2), ((refl, refl), ((refl, omega arith), ((refl, omega arith), tt))))
members_are (Snapshot since start top cursor) h =
    ((refl, plain-cursor_text cursor h.3), ((refl, refl), ((refl, omega arith), ((refl, omega arith), ((refl, omega arith), tt)))))
members_are (Scanned since start top) h = ((refl, refl), ((refl, omega arith), ((refl, omega arith), ((refl, omega arith), tt))))
members_are (Catchup since start target at) h = ((refl, omega arith), ((refl, refl), ((refl, omega arith), ((refl, omega arith), ((refl, omega arith), tt)))))

ordered : (mark : Mark) → put_all (mark_members mark) no_members ≡ members_data (mark_members mark)
ordered (Online scn) = refl
ordered mark = refl

mark_again : (mark : Mark) → IsMark mark → mark_in (data_of mark) ≡ Some mark
unfolding online_in delta_in snapshot_in scanned_in catchup_in mode_in
mark_again (Delta since target cursor) h = rw (cursor_again cursor h.2) refl
mark_again (Snapshot since start top cursor) h = rw (cursor_again cursor h.3) refl
mark_again mark h = refl

pub mark_form : ObjectForm IsMark mark_text mark_members mark_in
mark_form = record { spelled = spelled; members_are = members_are; ordered = ordered; found = mark_again }

pub one_mark : (m n : Mark) → IsMark m → IsMark n → mark_text m ≡ mark_text n → m ≡ n
one_mark = one_value mark_form

-- what a writer says of the text of its object
pub printed_mark : (mark : Mark) (d : Data) (text : List ℕ) → IsMark mark → d ≡ data_of mark → (has_float d ≡ false → text ≡ compact_text d) → text ≡ mark_text mark
printed_mark = written_value mark_form
