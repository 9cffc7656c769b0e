-- One connection behind those that were served.
use Rattle.std.proofs.Common.{◌≡◌, ℕ, ◌+◌, Bool, true, false, List, [], ◌∷◌, ◌++◌, length, map, Option, Some, None, option_map, refl, sym, ap, subst, ◌∙◌, ◌≤◌, append-nil, append_assoc, length-append, arith}
use Rattle.std.specs.List.{All}
use Rattle.std.proofs.lemmas.List.Elements.{All-nil, All-cons, All-append}
use Rattle.std.proofs.lemmas.List.{map-append}
use Rattle.bus_http.specs.declared.service.ServeEnd.{ServeEnd}
use Rattle.bus_http.specs.declared.service.ServeEnd.TheVariants as ends
use Rattle.bus_node.specs.Doors.{Visit, IsVisit, Visits, Visited}

module _ {P State : Type 0} (serves : State → State → Option (List ℕ) → Option (List ℕ) → Option (List ℕ) → Option (List ℕ) → Option (List ℕ) → Option (List ℕ) → ServeEnd → Type 0)
    (given left written : P → Option (List ℕ)) where
  -- what the connections that were served so far left
  pub record Ran (before after : Option (List P)) (s t : State) (count : ℕ) (short : Bool) : Type 0 where
    pub visits : List (Visit P State)
    pub finished : after ≡ option_map (λ peers. peers ++ map (λ v. v.peer) visits) before
    pub each : Visits serves given left written s t visits
    pub size : length visits ≡ count
    pub none : short ≡ false → All (λ v. v.end ≡ ends.NoMemory → ⊥) visits

  visits_more : (s t : State) (vs : List (Visit P State)) (v : Visit P State)
      → Visits serves given left written s t vs → IsVisit serves given left written t v → Visits serves given left written s v.state (vs ++ v ∷ [])
  visits_more s t [] v e one = (subst (λ x. IsVisit serves given left written x v) e one, refl)
  visits_more s t (u ∷ vs) v h one = (h.0, visits_more u.state t vs v h.1 one)

  finished_more : (before mid after : Option (List P)) (vs : List (Visit P State)) (v : Visit P State)
      → mid ≡ option_map (λ peers. peers ++ map (λ v. v.peer) vs) before → after ≡ option_map (λ peers. peers ++ v.peer ∷ []) mid
      → after ≡ option_map (λ peers. peers ++ map (λ v. v.peer) (vs ++ v ∷ [])) before
  finished_more None mid after vs v a b = rw (b, a) refl
  finished_more (Some peers) mid after vs v a b = rw (b, a, map-append (λ v. v.peer) vs (v ∷ [])) (ap Some (append_assoc peers (map (λ v. v.peer) vs) (v.peer ∷ [])))

  finished_none : (before : Option (List P)) → before ≡ option_map (λ peers. peers ++ []) before
  finished_none None = refl
  finished_none (Some peers) = ap Some (sym (append-nil peers))

  -- none was served yet
  pub ran_none : (before : Option (List P)) (s : State) → Ran before before s s 0 false
  ran_none before s = record { visits = []; finished = finished_none before; each = refl; size = refl; none = λ e. All-nil _ }

  -- one more was
  pub ran_more : (before mid after : Option (List P)) (s t u : State) (count : ℕ) (short now : Bool) (end : ServeEnd)
      → Ran before mid s t count short → Visited serves given left written mid after t u end
      → (now ≡ false → (short ≡ false) × (end ≡ ends.NoMemory → ⊥)) → Ran before after s u (count + 1) now
  ran_more before mid after s t u count short now end ran one test =
      let v : Visit P State = record { peer = one.peer; end = end; state = u } in
      record {
        visits = ran.visits ++ v ∷ [];
        finished = finished_more before mid after ran.visits v ran.finished one.finished;
        each = visits_more s t ran.visits v ran.each one.visit;
        size = omega (arith, length-append ran.visits (v ∷ []), ran.size);
        none = λ e. All-append (λ v. v.end ≡ ends.NoMemory → ⊥) ran.visits (v ∷ []) (ran.none (test e).0) (All-cons (λ v. v.end ≡ ends.NoMemory → ⊥) v [] (test e).1 (All-nil _));
      }

  -- all were
  pub ran_all : (before after : Option (List P)) (s t : State) (count most : ℕ) (short : Bool) → Ran before after s t count short → count ≡ most
      → (visits : List (Visit P State)) × (after ≡ option_map (λ peers. peers ++ map (λ v. v.peer) visits) before)
      × Visits serves given left written s t visits × (length visits ≤ most) × (false ≡ false → length visits ≡ most)
      × (short ≡ false → All (λ v. v.end ≡ ends.NoMemory → ⊥) visits)
  ran_all before after s t count most short ran full =
      (ran.visits, ran.finished, ran.each, omega (arith, ran.size, full), (λ e. ran.size ∙ full), ran.none)

  -- an accept failed
  pub ran_cut : (before mid after : Option (List P)) (s t u : State) (count most : ℕ) (short : Bool) → Ran before mid s t count short → after ≡ mid → u ≡ t → count ≤ most
      → (visits : List (Visit P State)) × (after ≡ option_map (λ peers. peers ++ map (λ v. v.peer) visits) before)
      × Visits serves given left written s u visits × (length visits ≤ most) × (true ≡ false → length visits ≡ most)
      × (short ≡ false → All (λ v. v.end ≡ ends.NoMemory → ⊥) visits)
  ran_cut before mid after s t u count most short ran same still within =
      (ran.visits, same ∙ ran.finished, subst (λ x. Visits serves given left written s x ran.visits) (sym still) ran.each, omega (arith, ran.size, within), (λ e. cc e), ran.none)
