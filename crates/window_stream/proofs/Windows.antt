-- Windows one after the other, as a scan gives them.
use Rattle.std.proofs.Common.{◌≡◌, ℕ, ◌+◌, List, [], ◌∷◌, ◌++◌, length, get_or, refl, sym, ap, subst, ◌∙◌, append_assoc, arith}
use Rattle.std.proofs.lemmas.List.{append-nil, length-append, get_or-append-add}
use Rattle.std.proofs.lemmas.List.Concat.{flat_map-append}
use Rattle.bus_types.specs.Window.{Span}
use Rattle.event_codec.specs.Bytes.{window_bytes}
use Rattle.event_codec.specs.Items.{Since, Open}
use Rattle.event_codec.specs.Streams.{Comes, Come, after_window, after_windows, windows_bytes, Begun}
use Rattle.event_codec.proofs.Streams.{come_append, after_append}
use Rattle.window_stream.specs.Scan.{IsBytes, Moves}

-- nothing was given
pub moves_none : (s : Since) (o : Open) (rest : List ℕ) (all : List Span) → Begun s o rest → Moves s rest s o rest all all
moves_none s o rest all begun = record { windows = []; given = sym (append-nil all); parts = refl; come = tt; since = refl; begun = begun }

-- one window was given
pub moves_one : (s : Since) (bytes : List ℕ) (w : Span) (t : Since) (o : Open) (rest : List ℕ) (before after : List Span) → Comes s w → bytes ≡ window_bytes w ++ rest → t ≡ after_window s w → Begun t o rest
    → after ≡ before ++ w ∷ [] → Moves s bytes t o rest before after
moves_one s bytes w t o rest before after comes parts since begun given =
    record { windows = w ∷ []; given = given; parts = parts ∙ ap (λ (x : List ℕ). x ++ rest) (sym (append-nil (window_bytes w))); come = (comes, tt); since = since; begun = begun }

-- one scan after another
pub moves_then : (s t u : Since) (o p : Open) (a b c : List ℕ) (x y z : List Span) → Moves s a t o b x y → Moves t b u p c y z → Moves s a u p c x z
moves_then s t u o p a b c x y z first second =
    let ws = first.windows in
    let vs = second.windows in
    record {
      windows = ws ++ vs;
      given = second.given ∙ ap (λ (all : List Span). all ++ vs) first.given ∙ append_assoc x ws vs;
      parts =
          first.parts
          ∙ ap (λ (rest : List ℕ). windows_bytes ws ++ rest) second.parts
          ∙ sym (append_assoc (windows_bytes ws) (windows_bytes vs) c)
          ∙ ap (λ (bytes : List ℕ). bytes ++ c) (sym (flat_map-append window_bytes ws vs));
      come = come_append s ws vs first.come (subst (λ (q : Since). Come q vs) first.since second.come);
      since = second.since ∙ ap (λ (q : Since). after_windows q vs) first.since ∙ sym (after_append s ws vs);
      begun = second.begun;
    }

-- how many bytes were given
pub given_length : (s : Since) (bytes : List ℕ) (t : Since) (o : Open) (rest : List ℕ) (before after : List Span) → (moves : Moves s bytes t o rest before after) → length bytes ≡ length (windows_bytes moves.windows) + length rest
given_length s bytes t o rest before after moves = ap length moves.parts ∙ length-append (windows_bytes moves.windows) rest

-- what is left of bytes is bytes
pub bytes_left : (s : Since) (bytes : List ℕ) (t : Since) (o : Open) (rest : List ℕ) (before after : List Span) → IsBytes bytes → Moves s bytes t o rest before after → IsBytes rest
bytes_left s bytes t o rest before after fits moves i =
    let given = windows_bytes moves.windows in
    let at : get_or bytes (length given + i) 0 ≡ get_or rest i 0 = ap (λ (x : List ℕ). get_or x (length given + i) 0) moves.parts ∙ get_or-append-add given rest i 0 in
    omega (arith, at, fits (length given + i))
