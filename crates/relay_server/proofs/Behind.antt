-- A pass has not seen lower numbers behind a connection than before it.
use Rattle.std.proofs.Common.{ℕ, true, List, Option, refl, sym, subst, ◌∙◌, arith}
use Rattle.bus_types.specs.Window.{Span}
use Rattle.bus_wire.specs.declared.ask.Ask.{Ask}
use Rattle.bus_wire.specs.declared.ask.Ask.TheVariants.{Stream, Start, Scan, Target, Catchup, Delta}
use Rattle.bus_http.specs.declared.route.Side.TheVariants.{Relay}
use Rattle.bus_http.specs.declared.service.ServeEnd.{ServeEnd}
use Rattle.bus_http.specs.Talks.{Served}
use Rattle.bus_http.proofs.Passings.{served}
use Rattle.range_ring.specs.Belonging.{PassIs}
use Rattle.relay_server.specs.Shared.{MayShare, KeepsPass, IsBehind}

stays : (s : PassIs) → IsBehind s s
stays s = record { home = refl; evicted = omega arith; published = omega arith; floor_loads = omega arith; tail_loads = omega arith }

through : (s t u : PassIs) → IsBehind s t → IsBehind t u → IsBehind s u
through s t u a b = record {
  home = b.home ∙ a.home;
  evicted = omega (arith, a.evicted, b.evicted);
  published = omega (arith, a.published, b.published);
  floor_loads = omega (arith, a.floor_loads, b.floor_loads);
  tail_loads = omega (arith, a.tail_loads, b.tail_loads);
}

replied : (told : Option (List Span)) (s t : PassIs) (ask : Ask) (body : List ℕ) → MayShare told s t ask body → IsBehind s t
replied told s t (Stream scn filter max) body r = record {
  home = r.looked.home;
  evicted = r.looked.evicted;
  published = r.looked.published;
  floor_loads = omega (arith, r.looked.floor_loads);
  tail_loads = omega (arith, r.looked.tail_loads);
}
replied told s t (Start since fresh) body r = absurd r
replied told s t (Scan start cursor filter max) body r = absurd r
replied told s t (Target start atleast) body r = absurd r
replied told s t (Catchup at target filter max) body r = absurd r
replied told s t (Delta since target cursor filter max) body r = absurd r

kept : (s t : PassIs) → KeepsPass s t → IsBehind s t
kept s t is = subst (λ (x : PassIs). IsBehind s x) (sym is) (stays s)

pub behind : (told : Option (List Span)) (s t : PassIs) (g h l m w v : Option (List ℕ)) (end : ServeEnd) → Served Relay (MayShare told) KeepsPass true s t g h l m w v end → IsBehind s t
behind told s t g h l m w v end talk =
    served Relay (MayShare told) KeepsPass true IsBehind (record { stays = stays; through = through; replied = replied told; kept = kept }) s t g h l m w v end talk
