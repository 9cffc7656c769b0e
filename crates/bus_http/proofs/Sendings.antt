-- What was written of a text whose parts are written one after another.
use Rattle.std.proofs.Common.{ℕ, ◌+◌, List, [], ◌++◌, length, Option, Some, None, sym, ap, ◌∙◌, append-nil, length-append, arith}
use Rattle.std.proofs.lemmas.List.{take-append-le}
use Rattle.std.proofs.Math.Seq.{take-append-add}
use Rattle.std.proofs.KnownBytes.{Appends-trans}
use Rattle.std.specs.Io.KnownBytes.{Appends}
use Rattle.bus_http.specs.Sent.{WroteFront}

-- a front of the first part
pub first_part : (old new : Option (List ℕ)) (a b : List ℕ) → WroteFront old new a → WroteFront old new (a ++ b)
first_part old new a b w = record {
  said = w.said;
  front = record {
    count = w.front.count;
    less = omega (arith, length-append a b, w.front.less);
    front = w.front.front ∙ sym (take-append-le w.front.count a b (omega (arith, w.front.less)));
  };
  written = w.written;
}

-- the first part, and a front of the second
pub second_part : (old mid new : Option (List ℕ)) (a b : List ℕ) → Appends old mid a → WroteFront mid new b → WroteFront old new (a ++ b)
second_part old mid new a b first w = record {
  said = a ++ w.said;
  front = record {
    count = length a + w.front.count;
    less = omega (arith, length-append a b, w.front.less);
    front = ap (λ (x : List ℕ). a ++ x) w.front.front ∙ sym (take-append-add a b w.front.count);
  };
  written = Appends-trans old mid new a w.said first w.written;
}

-- nothing was written
pub nothing : (o : Option (List ℕ)) → Appends o o []
nothing None = tt
nothing (Some x) = sym (append-nil x)
