use Rattle.std.proofs.Common.{length, refl, sym}
use Rattle.std.proofs.lemmas.Bool.{ltb-true}
use Rattle.partition_filter.specs.declared.rule.Keys.TheVariants.{Every}
use Rattle.partition_filter.specs.Spelling.{IsRule}
use Rattle.partition_filter.proofs.Searches.{each_at}
use Rattle.partition_filter.proofs.accepting.accepts_by_halves.Goals as goal

pub accepts_key-requires : goal.accepts_key-requires
accepts_key-requires c =
    let lookup = c.in-Some.ensures.lookup in
    let lt = ltb-true c.place_of-place.result (length c.args.rules.now) (sym lookup.0) in
    rw lookup.1 (each_at IsRule c.args.rules.now c.place_of-place.result c.in-Some.rule.now c.requires.each lt).1

pub returns-in_default : goal.returns-in_default
returns-in_default c =
    let none = c.in_default.ensures.lookup.0 in
    let here = c.place_of-place.ensures c.args.key.now record { source = 0; keys = Every } in
    rw (here, ← none) refl
