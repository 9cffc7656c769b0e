-- JSON objects of numbers and plain texts, by their members in the order of the keys.
use Rattle.std.specs.Prelude.{◌≡◌, ℕ, ◌<◌, ◌^◌, Bool, true, ◌==◌, ◌&&◌, ◌||◌, not, nat_lt, nat_le, List, [], ◌∷◌, ◌++◌, decimal, Option, Some, option_and_then}
use Rattle.std.specs.List.{list_all, AllByRecursion}
use Rattle.serde_json.specs.Data.{Data, number, unsigned, string, object, Members, member, no_members, put}
use Rattle.serde_json.specs.Find.{get, as_str, as_number, as_u64}

-- what a member holds: a whole number, a text, or a text that is the same in each object of its kind
pub data Part : Type 0 where
  Number : ℕ → Part
  Text : List ℕ → Part
  Fixed : List ℕ → Part

-- a key and what it names
abbrev pub Member : Type 0
Member = List ℕ × Part

-- ---- which there are

-- a byte that JSON writes as it is: printable ASCII, but no quote and no backslash
abbrev pub is_plain : ℕ → Bool
is_plain b = nat_le 32 b && nat_lt b 127 && not (b == 34 || b == 92)

abbrev pub IsPlain : List ℕ → Type 0
IsPlain text = list_all is_plain text ≡ true

abbrev pub IsPart : Part → Type 0
IsPart (Number n) = n < 2 ^ 64
IsPart (Text text) = IsPlain text
IsPart (Fixed text) = IsPlain text

abbrev pub AreMembers : List Member → Type 0
AreMembers members = AllByRecursion (λ (m : Member). IsPlain m.0 × IsPart m.1) members

-- ---- as a value

abbrev pub part_data : Part → Data
part_data (Number n) = number (unsigned n)
part_data (Text text) = string text
part_data (Fixed text) = string text

abbrev pub members_data : List Member → Members
members_data [] = no_members
members_data (m ∷ ms) = member m.0 (part_data m.1) (members_data ms)

abbrev pub object_data : List Member → Data
object_data members = object (members_data members)

-- a member that is a text
abbrev pub text_at : List ℕ → Data → Option (List ℕ)
text_at name d = option_and_then as_str (get name d)

-- a member that is a whole number below 2 to the 64
abbrev pub number_at : List ℕ → Data → Option ℕ
number_at name d = option_and_then as_u64 (option_and_then as_number (get name d))

-- ---- as a text, compact JSON

-- between quotes
abbrev pub quote : List ℕ → List ℕ
quote text = 34 ∷ (text ++ 34 ∷ [])

abbrev pub part_text : Part → List ℕ
part_text (Number n) = decimal n
part_text (Text text) = quote text
part_text (Fixed text) = quote text

-- each member behind a front, which is a comma for those behind the first, and the last brace
abbrev pub members_text : List ℕ → List Member → List ℕ
members_text front [] = 125 ∷ []
members_text front (m ∷ ms) = front ++ (quote m.0 ++ 58 ∷ (part_text m.1 ++ members_text (44 ∷ []) ms))

abbrev pub object_text : List Member → List ℕ
object_text members = 123 ∷ members_text [] members

-- ---- the form

-- the members put into an object, one after another
abbrev pub put_all : List Member → Members → Members
put_all [] found = found
put_all (m ∷ ms) found = put_all ms (put m.0 (part_data m.1) found)

-- values whose texts are those of JSON objects, and which are found again in their objects
pub record ObjectForm {X : Type 0} (Is : X → Type 0) (text : X → List ℕ) (members : X → List Member) (find : Data → Option X) : Type 0 where
  pub spelled : (x : X) → text x ≡ object_text (members x)
  pub members_are : (x : X) → Is x → AreMembers (members x)
  -- the members stand in the order of their keys
  pub ordered : (x : X) → put_all (members x) no_members ≡ members_data (members x)
  pub found : (x : X) → Is x → find (object_data (members x)) ≡ Some x
