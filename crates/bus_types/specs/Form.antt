-- A form of texts: which values have a text, the text of each, and how a text is read.
use Rattle.std.specs.Prelude.{◌≡◌, ℕ, Bool, true, List, Option, Some}
use Rattle.std.specs.List.{list_all}

-- what is read of a text is spelled so and has a text, what is spelled so is read, and its bytes pass a test
pub record Form {X : Type 0} (Is : X → Type 0) (spell : X → List ℕ) (read : List ℕ → Option X) (test : ℕ → Bool) : Type 0 where
  pub taken : (text : List ℕ) (x : X) → read text ≡ Some x → Is x × (text ≡ spell x)
  pub again : (x : X) → Is x → read (spell x) ≡ Some x
  pub bytes : (x : X) → Is x → list_all test (spell x) ≡ true
