-- A node's options as a reader of command lines has them.
use Rattle.std.specs.Prelude.{◌≡◌, ℕ, true, false, List, [], ◌∷◌, map, Some, None, codes, bytes_eq}
use Rattle.std.specs.List.{list_any}
use Rattle.clap.specs.Lexer.{long_of}
use Rattle.clap.specs.Walk.{Rule}
use Rattle.clap.specs.Simple.{App, new_rule, new_shape}
use Rattle.clap.specs.Matches.{found_of, first_value}
use Rattle.clap.specs.declared.parser.matches.ArgMatches.{ArgMatches}
use Rattle.bus_node.specs.Words.{Values, option_word}

-- an option of one value, which is read back by its name
abbrev pub option_rule : List ℕ → Rule
option_rule name = record (new_rule name) { long = Some name }

-- a command of these options alone, whose words have no program's name in front, and which knows no `--help`
abbrev pub options_app : List (List ℕ) → App
options_app names = record {
  top = record (new_shape (codes "node")) {
    rules = map option_rule names;
    no_binary_name = true;
    disable_help_flag = true;
  };
  subs = [];
}

-- the first value of each option in some matches
unfoldable pub said_by : ArgMatches → Values
said_by matches name = first_value (found_of matches) name

-- names that can be told apart as options: the word of each is a long option of this name, and none stands twice
abbrev pub AreNames : List (List ℕ) → Type 0
AreNames [] = Unit {0}
AreNames (name ∷ names) = (long_of (option_word name) ≡ Some (name, None)) × (list_any (λ other. bytes_eq name other) names ≡ false) × AreNames names
