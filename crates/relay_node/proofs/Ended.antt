-- A relay that published its input and was served.
use Rattle.std.proofs.Common.{◌≡◌, ℕ, inl, inr, List, Option, subst}
use Rattle.std.specs.Io.KnownBytes.{IsAtEnd}
use Rattle.bus_types.specs.Window.{Span}
use Rattle.bus_types.specs.Relay.{Relay}
use Rattle.trace_script.specs.Printed.{relay_line}
use Rattle.bus_link.specs.Links.{Told}
use Rattle.range_ring.specs.declared.words.Limits.{Limits}
use Rattle.range_ring.specs.Words.{room_of}
use Rattle.range_ring.specs.Belonging.{RingIs}
use Rattle.relay_node.specs.Feeding.{windows_of}
use Rattle.relay_node.specs.Node.{IsFed, Relayed, RelayedSome}
use Rattle.relay_node.specs.Serving.{ServesAll, ServesFew, ServesSome}

fed_within : (limits : Limits) (home : RingIs) (input : Option (List ℕ)) (r : Relay) → home.limits ≡ limits → IsFed (room_of home.limits) input r → IsFed (room_of limits) input r
fed_within limits home input r same fed = subst (λ (l : Limits). IsFed (room_of l) input r) same fed

module _ {P : Type 0} (given left written : P → Option (List ℕ)) where
  pub relayed : (told : Option (List Span)) (limits : Limits) (home : RingIs) (port connections : ℕ) (input rest : Option (List ℕ)) (before after : Option (Told P)) (Printed : List ℕ → Type 0) (r : Relay) → told ≡ windows_of input → home.limits ≡ limits
      → IsFed (room_of home.limits) input r → IsAtEnd rest → ServesAll given left written told port connections r before after → Printed (relay_line r.floor r.tail)
      → Relayed given left written (room_of limits) port connections input rest before after Printed
  relayed told limits home port connections input rest before after Printed r is same fed end serves printed = record {
    relay = r;
    fed = fed_within limits home input r same fed;
    end = end;
    serves = subst (λ (windows : Option (List Span)). ServesAll given left written windows port connections r before after) is serves;
    printed = printed;
  }

  pub relayed_some : (told : Option (List Span)) (limits : Limits) (home : RingIs) (port connections : ℕ) (input rest : Option (List ℕ)) (before after : Option (Told P)) (r : Relay) → told ≡ windows_of input → home.limits ≡ limits
      → IsFed (room_of home.limits) input r → IsAtEnd rest → ServesSome given left written told port connections r before after → RelayedSome given left written (room_of limits) port connections input rest before after
  relayed_some told limits home port connections input rest before after r is same fed end (inl e) = inl e
  relayed_some told limits home port connections input rest before after r is same fed end (inr few) = inr (record {
    relay = r;
    fed = fed_within limits home input r same fed;
    end = end;
    serves = (subst (λ (windows : Option (List Span)). ServesFew given left written windows port connections r before after) is few);
  })
