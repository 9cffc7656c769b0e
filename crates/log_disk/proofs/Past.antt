-- The calls that a disk in memory keeps.
use Rattle.std.proofs.Common.{◌≡◌, ℕ, ◌+◌, List, [], ◌∷◌, ◌++◌, length, take, drop, sym, ◌∙◌, ap, subst, arith, length-append, length-drop}
use Rattle.std.proofs.lemmas.List.{take_all, take-append-le, drop-append-le, nil_from_length, append-nil}
use Rattle.log_disk.specs.declared.memory.Call.{Call}
use Rattle.log_disk.specs.declared.memory.Call.TheVariants.{Write, Cut, Sync}
use Rattle.log_disk.specs.declared.memory.Range.{Range}
use Rattle.log_disk.specs.Pending.{Content, lasting, Step, after, after_all}
use Rattle.log_disk.specs.Pending.Step.{Wrote, CutTo, Synced}
use Rattle.log_disk.specs.Memory.{steps_of, written_size, IsContent, AreKept}
use Rattle.log_disk.proofs.Contents.{lasting_content, after_all-push}

steps_of-push : (calls : List Call) (c : Call) (texts text : List ℕ) → written_size calls ≡ length texts → steps_of (calls ++ c ∷ []) (texts ++ text) ≡ steps_of calls texts ++ steps_of (c ∷ []) text
steps_of-push [] c texts text size = ap (λ (l : List ℕ). steps_of (c ∷ []) (l ++ text)) (nil_from_length texts (sym size))
steps_of-push (Write place n ∷ calls) c texts text size =
    ap (λ (l : List ℕ). Wrote place l ∷ steps_of (calls ++ c ∷ []) (drop n (texts ++ text))) (take-append-le n texts text (omega (arith, size)))
    ∙ ap (λ (l : List ℕ). Wrote place (take n texts) ∷ steps_of (calls ++ c ∷ []) l) (drop-append-le n texts text (omega (arith, size)))
    ∙ ap (λ (l : List Step). Wrote place (take n texts) ∷ l) (steps_of-push calls c (drop n texts) text (omega (arith, size, length-drop n texts)))
steps_of-push (Cut n ∷ calls) c texts text size = ap (λ (l : List Step). CutTo n ∷ l) (steps_of-push calls c texts text size)
steps_of-push (Sync ∷ calls) c texts text size = ap (λ (l : List Step). Synced ∷ l) (steps_of-push calls c texts text size)

written_size-push : (calls : List Call) (c : Call) → written_size (calls ++ c ∷ []) ≡ written_size calls + written_size (c ∷ [])
written_size-push [] c = omega arith
written_size-push (Write place n ∷ calls) c = omega (arith, written_size-push calls c)
written_size-push (Cut n ∷ calls) c = omega (arith, written_size-push calls c)
written_size-push (Sync ∷ calls) c = omega (arith, written_size-push calls c)

module _ (calls calls' : List Call) (texts texts' : List ℕ) (size : written_size calls ≡ length texts) where
  pub wrote : (place n : ℕ) (text : List ℕ) → n ≡ length text → calls' ≡ calls ++ Write place n ∷ [] → texts' ≡ texts ++ text → steps_of calls' texts' ≡ steps_of calls texts ++ Wrote place text ∷ []
  wrote place n text is more longer =
      ap (λ (l : List Call). steps_of l texts') more ∙ ap (λ (l : List ℕ). steps_of (calls ++ Write place n ∷ []) l) longer ∙ steps_of-push calls (Write place n) texts text size
      ∙ ap (λ (l : List ℕ). steps_of calls texts ++ Wrote place l ∷ []) (take_all n text (omega (arith, is)))

  pub wrote_size : (place n : ℕ) (text : List ℕ) → n ≡ length text → calls' ≡ calls ++ Write place n ∷ [] → texts' ≡ texts ++ text → written_size calls' ≡ length texts'
  wrote_size place n text is more longer = rw (more, longer) (omega (arith, written_size-push calls (Write place n), length-append texts text, size, is))

module _ (calls calls' : List Call) (texts : List ℕ) (size : written_size calls ≡ length texts) where
  pub cut : (n : ℕ) → calls' ≡ calls ++ Cut n ∷ [] → steps_of calls' texts ≡ steps_of calls texts ++ CutTo n ∷ []
  cut n more =
      ap (λ (l : List Call). steps_of l texts) more ∙ ap (λ (l : List ℕ). steps_of (calls ++ Cut n ∷ []) l) (sym (append-nil texts)) ∙ steps_of-push calls (Cut n) texts [] size

  pub cut_size : (n : ℕ) → calls' ≡ calls ++ Cut n ∷ [] → written_size calls' ≡ length texts
  cut_size n more = rw more (omega (arith, written_size-push calls (Cut n), size))

  pub synced : calls' ≡ calls ++ Sync ∷ [] → steps_of calls' texts ≡ steps_of calls texts ++ Synced ∷ []
  synced more =
      ap (λ (l : List Call). steps_of l texts) more ∙ ap (λ (l : List ℕ). steps_of (calls ++ Sync ∷ []) l) (sym (append-nil texts)) ∙ steps_of-push calls Sync texts [] size

  pub synced_size : calls' ≡ calls ++ Sync ∷ [] → written_size calls' ≡ length texts
  synced_size more = rw more (omega (arith, written_size-push calls Sync, size))

-- the content after one call more
module _ (start : List ℕ) (steps steps' : List Step) (s : Step) (more : steps' ≡ steps ++ s ∷ []) where
  pub next_content : after_all steps' (lasting start) ≡ after s (after_all steps (lasting start))
  next_content = ap (λ (l : List Step). after_all l (lasting start)) more ∙ after_all-push steps s (lasting start)

  pub kept : (calls : List Call) (texts bytes synced : List ℕ) (written : List Range) → written_size calls ≡ length texts → IsContent (after s (after_all steps (lasting start)))
      → (after s (after_all steps (lasting start))).bytes ≡ bytes → (after s (after_all steps (lasting start))).pending.base ≡ synced → (after s (after_all steps (lasting start))).pending.written ≡ written
      → AreKept (after_all steps' (lasting start)) calls texts bytes synced written
  kept calls texts bytes synced written size whole read base ranges = record {
    size = size;
    read = ap (λ (c : Content). c.bytes) next_content ∙ read;
    base = ap (λ (c : Content). c.pending.base) next_content ∙ base;
    ranges = ap (λ (c : Content). c.pending.written) next_content ∙ ranges;
    whole = subst IsContent (sym next_content) whole;
  }

-- no call was made since the start
pub restarted : (start : List ℕ) (calls : List Call) (texts bytes synced : List ℕ) (written : List Range) → calls ≡ [] → texts ≡ [] → start ≡ bytes → synced ≡ bytes → written ≡ []
    → AreKept (after_all (steps_of calls texts) (lasting start)) calls texts bytes synced written
restarted start calls texts bytes synced written no_calls no_texts from same no_ranges =
    let is : after_all (steps_of calls texts) (lasting start) ≡ lasting bytes = ap (λ (l : List Call). after_all (steps_of l texts) (lasting start)) no_calls ∙ ap lasting from in
    record {
      size = ap written_size no_calls ∙ sym (ap length no_texts);
      read = ap (λ (c : Content). c.bytes) is;
      base = ap (λ (c : Content). c.pending.base) is ∙ sym same;
      ranges = ap (λ (c : Content). c.pending.written) is ∙ sym no_ranges;
      whole = subst IsContent (sym is) (lasting_content bytes);
    }
