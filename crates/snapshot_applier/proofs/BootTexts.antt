-- The text of a boot mark is that of its object, and the boot mark is found again in it.
use Rattle.std.proofs.Common.{◌≡◌, ℕ, false, List, refl, arith}
use Rattle.serde_json.specs.Data.{Data}
use Rattle.serde_json.specs.Written.{has_float, compact_text}
use Rattle.json_forms.specs.Objects.{ObjectForm}
use Rattle.json_forms.proofs.ObjectTexts.{in_pieces-is, written_value, one_value}
use Rattle.snapshot_applier.specs.declared.boot.BootMark.{BootMark}
use Rattle.snapshot_applier.specs.BootMark.{IsBootMark, boot_mark_text}
use Rattle.snapshot_applier.specs.Members.{boot_members, boot_data, boot_in}

pub boot_form : ObjectForm IsBootMark boot_mark_text boot_members boot_in
unfolding boot_in
boot_form = record {
  spelled = λ m. in_pieces-is (boot_members m);
  members_are = λ m h. ((refl, omega arith), ((refl, omega arith), tt));
  ordered = λ m. refl;
  found = λ m h. refl;
}

-- two boot marks have two texts
pub one_boot : (m n : BootMark) → IsBootMark m → IsBootMark n → boot_mark_text m ≡ boot_mark_text n → m ≡ n
one_boot = one_value boot_form

-- what a writer says of the text of its object
pub printed_boot : (m : BootMark) (d : Data) (text : List ℕ) → IsBootMark m → d ≡ boot_data m → (has_float d ≡ false → text ≡ compact_text d) → text ≡ boot_mark_text m
printed_boot = written_value boot_form
