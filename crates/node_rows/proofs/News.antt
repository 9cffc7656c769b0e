-- Lists in which each element is new.
use Rattle.std.proofs.lemmas.List.Elements.{All-push}

pub ruleset more = (All-push)
