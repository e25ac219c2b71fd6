-- What the reader of text says of bytes.
use Rattle.std.{specs.Str.{is_utf8}, proofs.Common.{◌≡◌, ℕ, List, Some, None, Bool, true, false, refl, IsUtf8}}
use Rattle.std.proofs.lemmas.Str.{IsUtf8-from_is_utf8, is_utf8-from_IsUtf8}
use Rattle.serde_json.specs.{Data.{Data}, Read.{read}}
use Rattle.plant_wire_body.specs.Members.{value_of}

pub value_found : (bytes : List ℕ) (d : Data) → IsUtf8 bytes × (read bytes ≡ Some d) → value_of bytes ≡ Some d
value_found bytes d (text, is) = rw (is_utf8-from_IsUtf8 bytes text) is

pub value_missing : (bytes : List ℕ) → (IsUtf8 bytes → read bytes ≡ None) → value_of bytes ≡ None
value_missing bytes none = go (is_utf8 bytes) refl
  where
    go : (b : Bool) → is_utf8 bytes ≡ b → value_of bytes ≡ None
    go true e = rw e (none (IsUtf8-from_is_utf8 bytes e))
    go false e = rw e refl
