-- Forms of text: a regular grammar as a value, the trees that it has, and their texts. A derivation of a text is a tree, so what a text says is a
-- function of its tree. Nothing here reads.
use Rattle.std.specs.Prelude.{◌≡◌, List, [], ◌∷◌, ◌++◌, ℕ, suc, ◌≤◌, ◌<◌, length, take}

-- a byte, and its role: what it is there for in the sentence that it stands in
pub record Mark : Type 0 where
  pub byte : ℕ
  pub role : ℕ

-- nothing; a byte from a to z, in a role; one form and then another; one or another; any number of one, none too
pub data Form : Type 0 where
  empty : Form
  one : ℕ → ℕ → ℕ → Form
  then : Form → Form → Form
  or : Form → Form → Form
  many : Form → Form

-- the trees of a form
pub data Tree : Form → Type 0 where
  nothing : Tree empty
  byte : {a z r : ℕ} (b : ℕ) → a ≤ b → b ≤ z → Tree (one a z r)
  both : {f g : Form} → Tree f → Tree g → Tree (then f g)
  left : {f g : Form} → Tree f → Tree (or f g)
  right : {f g : Form} → Tree g → Tree (or f g)
  done : {f : Form} → Tree (many f)
  more : {f : Form} → Tree f → Tree (many f) → Tree (many f)

-- a tree's bytes with their roles, and its text
unfoldable pub marks : {f : Form} → Tree f → List Mark
marks nothing = []
marks (byte {r = r} b l h) = record { byte = b; role = r } ∷ []
marks (both t u) = marks t ++ marks u
marks (left t) = marks t
marks (right t) = marks t
marks done = []
marks (more t l) = marks t ++ marks l

unfoldable pub bytes : List Mark → List ℕ
bytes [] = []
bytes (m ∷ w) = m.byte ∷ bytes w

abbrev pub text_of : {f : Form} → Tree f → List ℕ
text_of t = bytes (marks t)

-- a sentence of the form, and a beginning of one
pub record Sentence (f : Form) (s : List ℕ) : Type 0 where
  pub tree : Tree f
  pub text : text_of tree ≡ s

pub record Opens (f : Form) (s : List ℕ) : Type 0 where
  pub rest : List ℕ
  pub sentence : Sentence f (s ++ rest)

-- s is no sentence, and k is the place of the first byte that no sentence can continue through, or the length of s if it ends too early
pub record Stops (f : Form) (s : List ℕ) (k : ℕ) : Type 0 where
  pub within : k ≤ length s
  pub before : Opens f (take k s)
  pub beyond : k < length s → Opens f (take (suc k) s) → ⊥
  pub refused : Sentence f s → ⊥
