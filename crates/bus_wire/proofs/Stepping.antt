-- Steps one after the other: where one row of steps stops, each does.
use Rattle.std.proofs.Common.{◌≡◌, ℕ, zero, suc, Option, Some, None, sym, ap, subst, ◌∙◌}
use Rattle.std.proofs.lemmas.Option.{same_Some, none-some}

-- so many steps further
abbrev pub Goes : {A : Type 0} (next : A → Option A) → ℕ → A → A → Type 0
Goes next zero a b = a ≡ b
Goes {A} next (suc n) a b = (c : A) × (next a ≡ Some c) × Goes next n c b

-- some steps further
abbrev pub Leads : {A : Type 0} (next : A → Option A) → A → A → Type 0
Leads next a b = (n : ℕ) × Goes next n a b

module _ {A : Type 0} (next : A → Option A) where
  -- where one row of steps stops, the other does
  one_end : (n m : ℕ) (a b c : A) → Goes next n a b → next b ≡ None → Goes next m a c → next c ≡ None → b ≡ c
  one_end zero zero a b c first stop second stop_too = sym first ∙ second
  one_end zero (suc m) a b c first stop second stop_too = absurd (none-some second.0 (sym stop ∙ ap next (sym first) ∙ second.1))
  one_end (suc n) zero a b c first stop second stop_too = absurd (none-some first.0 (sym stop_too ∙ ap next (sym second) ∙ first.1))
  one_end (suc n) (suc m) a b c first stop second stop_too =
      let same : first.0 ≡ second.0 = same_Some first.0 second.0 (sym first.1 ∙ second.1) in
      one_end n m second.0 b c (subst (λ (x : A). Goes next n x b) same first.2) stop second.2 stop_too

  pub one_stop : (a b c : A) → Leads next a b → next b ≡ None → Leads next a c → next c ≡ None → b ≡ c
  one_stop a b c first stop second stop_too = one_end first.0 second.0 a b c first.1 stop second.1 stop_too

  pub here : (a b : A) → a ≡ b → Leads next a b
  here a b same = (zero, same)

  pub further : (a b c : A) → next a ≡ Some b → Leads next b c → Leads next a c
  further a b c step rest = (suc rest.0, (b, step, rest.1))

  goes_on : (n : ℕ) (a b c : A) → Goes next n a b → Leads next b c → Leads next a c
  goes_on zero a b c same rest = subst (λ (x : A). Leads next x c) (sym same) rest
  goes_on (suc n) a b c goes rest = further a goes.0 c goes.1 (goes_on n goes.0 b c goes.2 rest)

  pub after_all : (a b c : A) → Leads next a b → Leads next b c → Leads next a c
  after_all a b c first rest = goes_on first.0 a b c first.1 rest
