-- What a script text is, and the first fault of a text that is none.
use Rattle.std.specs.Prelude.{◌≡◌, ℕ, ◌+◌, false, List, [], ◌∷◌, ◌++◌, map, Some, None, Result, Ok, Err}
use Rattle.script_syntax.specs.declared.fault.SyntaxKind.{SyntaxKind}
use Rattle.script_syntax.specs.declared.fault.SyntaxKind.TheVariants as kinds
use Rattle.script_syntax.specs.declared.fault.SyntaxFault.{SyntaxFault}
use Rattle.script_syntax.specs.declared.token.Token.{Token}
use Rattle.script_syntax.specs.declared.tree.Script.{Script}
use Rattle.script_syntax.specs.declared.place.Place.{Place}
use Rattle.script_syntax.specs.declared.scanner.Placed.{Placed}
use Rattle.script_syntax.specs.Editions.{asks_mean}
use Rattle.script_syntax.specs.Grammar.{Derives, IsViable}
use Rattle.script_syntax.specs.Listed.{listed, IsClean}
use Rattle.script_syntax.specs.Places.{first_place}
use Rattle.script_syntax.specs.Tokens.{Ending, Whole, Byte, Scanned, AreScriptTokens}

-- tokens without their places
abbrev pub tokens_of : List Placed → List Token
tokens_of placed = map (λ t. t.token) placed

-- the place behind a token
abbrev pub place_after_token : Placed → Place
place_after_token t = record { line = t.place.line; column = t.place.column + t.len }

-- the place behind the last of these tokens, or the given one where there are none
abbrev pub end_from : Place → List Placed → Place
end_from p [] = p
end_from p (t ∷ ts) = end_from (place_after_token t) ts

-- the place behind the last token, or the text's first place where there is none
abbrev pub end_place : List Placed → Place
end_place ts = end_from first_place ts

-- the place of a fault
abbrev pub fault_place : SyntaxFault → Place
fault_place f = record { line = f.line; column = f.column }

-- behind the front stands a token, at this place, that has a fault of its own: its length, its number or its count
pub record HasListed (front back : List Placed) (kind : SyntaxKind) (place : Place) : Type 0 where
  pub token : Placed
  pub rest : List Placed
  pub stands : back ≡ token ∷ rest
  pub is_at : place ≡ token.place
  pub is : listed (tokens_of front) token.token ≡ Some kind

-- behind the front stands a token, at this place, without such a fault, and with it the front begins no script
pub record HasRefused (front back : List Placed) (place : Place) : Type 0 where
  pub token : Placed
  pub rest : List Placed
  pub stands : back ≡ token ∷ rest
  pub is_at : place ≡ token.place
  pub clean : listed (tokens_of front) token.token ≡ None
  pub dead : IsViable (tokens_of front ++ token.token ∷ []) → ⊥

-- the text ends behind the front, and its tokens are no script
pub record HasEnd (front back : List Placed) (ending : Ending) (place : Place) : Type 0 where
  pub none : back ≡ []
  pub whole : ending ≡ Whole
  pub is_at : place ≡ end_place front
  pub no_script : (tree : Script) → Derives (tokens_of front) tree → ⊥

-- behind the front there is this fault at this place
abbrev pub IsFault : List Placed → List Placed → Ending → SyntaxKind → Place → Type 0
IsFault front back ending kinds.Byte place = (back ≡ []) × (ending ≡ Byte place)
IsFault front back ending kinds.Token place = HasRefused front back place
IsFault front back ending kinds.End place = HasEnd front back ending place
IsFault front back ending kinds.Long place = HasListed front back kinds.Long place
IsFault front back ending kinds.Many place = HasListed front back kinds.Many place
IsFault front back ending kinds.Large place = HasListed front back kinds.Large place
IsFault front back ending kinds.Number place = HasListed front back kinds.Number place

-- The first fault of tokens: those before it begin a script, and none of them has a fault of its own.
pub record IsFirstSyntaxFault (s : Scanned) (f : SyntaxFault) : Type 0 where
  pub front : List Placed
  pub back : List Placed
  pub parts : s.tokens ≡ front ++ back
  pub before : IsViable (tokens_of front)
  pub clean : IsClean (tokens_of front)
  pub here : IsFault front back s.ending f.kind (fault_place f)

-- the text is a script, and this is its tree: its tokens derive it, but for the edition, which the first line tells
pub record IsScript (text : List ℕ) (tree : Script) : Type 0 where
  pub scanned : Scanned
  pub tokens : AreScriptTokens text scanned
  pub whole : scanned.ending ≡ Whole
  pub derives : Derives (tokens_of scanned.tokens) (record tree { mean = false })
  pub mean : tree.mean ≡ asks_mean text
  pub clean : IsClean (tokens_of scanned.tokens)

-- the text is no script, and this is its first fault
pub record IsFaulty (text : List ℕ) (fault : SyntaxFault) : Type 0 where
  pub scanned : Scanned
  pub tokens : AreScriptTokens text scanned
  pub first : IsFirstSyntaxFault scanned fault

-- what a text gives: its tree, or its first fault
abbrev pub IsExact : List ℕ → Result Script SyntaxFault → Type 0
IsExact text (Ok tree) = IsScript text tree
IsExact text (Err fault) = IsFaulty text fault
