-- The ways in which a session goes on or ends, from where it stands.
use Rattle.std.{specs.Io.KnownBytes.{Consumes, IsAtEnd}, proofs.KnownBytes.{Consumes-nil, Consumes-trans}}
use Rattle.std.proofs.Common.{◌≡◌, ◌⊎◌, ◌<◌, ℕ, List, [], ◌∷◌, ◌++◌, length, drop, map, Bool, false, ◌==◌, Option, refl, sym, ap, subst, inl, inr, append-nil, arith, IsTrue}
use Rattle.plant_model.specs.declared.{call.Call.{Call}, reply.Answer.{Answer}}
use Rattle.plant_wire_call.{specs.Front.{waits, body_length, item_of, StandsAtFront}, proofs.public.Cuts.{Parses-append}}
use Rattle.plant_wire.specs.{Marks.{marked_item}, Session.{IsIdle, IsCutShort}, Step.{IsStopped, AnswersFront, ServesBroken}, declared.step.Stop.{Stop}}
use Rattle.plant_wire.specs.declared.step.Stop.TheVariants.{Fault}
use Rattle.plant_wire.proofs.Serving.{serves_none, serves_more, serves_then_broken, serves_then_part, serves_part}
use Rattle.plant_wire.proofs.public.Running.{Joins}

pub some_left : (buffer seen : List ℕ) (b : Bool) → seen ≡ buffer → b ≡ (length seen == 0) → b ≡ false → 0 < length buffer
some_left buffer [] b is e none = cc
some_left buffer (x ∷ seen) b is e none = let n = ap length is in omega arith

-- where a session stands before its next read
pub record Stands (r r' o o' : Option (List ℕ)) (ran : List Call → List Answer → Type 0) (buffer : List ℕ) : Type 0 where
  pub bytes : List ℕ
  pub bytes_are : Consumes r r' bytes
  pub serves : AnswersFront bytes o o' ran buffer
  pub idle : IsIdle buffer

pub stands_start : (r o : Option (List ℕ)) (ran : List Call → List Answer → Type 0) → ran [] [] → Stands r r o o ran []
stands_start r o ran none = record { bytes = []; bytes_are = Consumes-nil r; serves = serves_none [] o none; idle = inl refl }

-- more bytes come
serves_extend : (bytes more rest : List ℕ) (o o' : Option (List ℕ)) (ran : List Call → List Answer → Type 0) → AnswersFront bytes o o' ran rest
    → AnswersFront (bytes ++ more) o o' ran (rest ++ more)
serves_extend bytes more rest o o' ran a = record {
  marks = a.marks;
  parses = Parses-append body_length item_of bytes more (map marked_item a.marks) rest a.parses;
  writes = a.writes;
  served = a.served;
}

module _ {r r' o o' : Option (List ℕ)} {ran : List Call → List Answer → Type 0} {buffer : List ℕ} (at : Stands r r' o o' ran buffer) where
  -- the same bytes, after a read that gave none
  no_more : (r'' : Option (List ℕ)) → Consumes r' r'' [] → Consumes r r'' at.bytes
  no_more r'' none = subst (Consumes r r'') (append-nil at.bytes) (Consumes-trans r r' r'' at.bytes [] at.bytes_are none)

  pub ends_cut : (r'' : Option (List ℕ)) (e : Bool) → IsTrue e → IsAtEnd r'' → Consumes r' r'' [] → 0 < length buffer
      → (bytes : List ℕ) × Consumes r r'' bytes × (ServesBroken bytes o o' ran ⊎ IsCutShort bytes r'' e o o' ran)
  ends_cut r'' e seen left none some = (
    at.bytes,
    no_more r'' none,
    inr (record {
      seen = seen;
      nothing_left = left;
      rest = buffer;
      some = some;
      waiting = waiting at.idle;
      serves = at.serves;
    }),
  )
    where
      waiting : IsIdle buffer → StandsAtFront buffer waits
      waiting (inl is) = let e = ap length is in absurd (omega arith)
      waiting (inr front) = front

  pub ends_failed : (r'' : Option (List ℕ)) → Consumes r' r'' []
      → (bytes : List ℕ) × Consumes r r'' bytes × ((rest : List ℕ) × IsIdle rest × AnswersFront bytes o o' ran rest)
  ends_failed r'' none = (at.bytes, no_more r'' none, (buffer, at.idle, at.serves))

  pub ends_fault : (r'' : Option (List ℕ)) (more : List ℕ) → Consumes r' r'' more
      → (bytes : List ℕ) × Consumes r r'' bytes × IsStopped bytes o o' ran Fault
  ends_fault r'' more came = (
    at.bytes ++ more,
    Consumes-trans r r' r'' at.bytes more at.bytes_are came,
    serves_part (at.bytes ++ more) (buffer ++ more) o o' (serves_extend at.bytes more buffer o o' ran at.serves),
  )

  module _ (r'' : Option (List ℕ)) (buffer' more : List ℕ) (came : Consumes r' r'' more) (is : buffer' ≡ buffer ++ more)
      {next all : List Call → List Answer → Type 0} (joins : Joins ran next all) where
    all_bytes : Consumes r r'' (at.bytes ++ more)
    all_bytes = Consumes-trans r r' r'' at.bytes more at.bytes_are came

    before : AnswersFront (at.bytes ++ more) o o' ran buffer'
    before = subst (λ (x : List ℕ). AnswersFront (at.bytes ++ more) o o' ran x) (sym is) (serves_extend at.bytes more buffer o o' ran at.serves)

    pub ends_part : (o'' : Option (List ℕ)) (stop : Stop) → IsStopped buffer' o' o'' next stop
        → (bytes : List ℕ) × Consumes r r'' bytes × IsStopped bytes o o'' all stop
    ends_part o'' stop b = (at.bytes ++ more, all_bytes, serves_then_part joins (at.bytes ++ more) buffer' o o' o'' stop before b)

    pub ends_broken : (e : Bool) (o'' : Option (List ℕ)) → ServesBroken buffer' o' o'' next
        → (bytes : List ℕ) × Consumes r r'' bytes × (ServesBroken bytes o o'' all ⊎ IsCutShort bytes r'' e o o'' all)
    ends_broken e o'' b = (at.bytes ++ more, all_bytes, inl (serves_then_broken joins (at.bytes ++ more) buffer' o o' o'' before b))

    pub stands_next : (o'' : Option (List ℕ)) (n : ℕ) (rest : List ℕ) → rest ≡ drop n buffer' → StandsAtFront (drop n buffer') waits
        → AnswersFront buffer' o' o'' next (drop n buffer') → Stands r r'' o o'' all rest
    stands_next o'' n rest e front b =
        let b' = subst (λ (x : List ℕ). AnswersFront buffer' o' o'' next x) (sym e) b in
        record {
          bytes = at.bytes ++ more;
          bytes_are = all_bytes;
          serves = serves_more joins (at.bytes ++ more) buffer' rest o o' o'' before b';
          idle = inr (subst (λ (x : List ℕ). StandsAtFront x waits) (sym e) front);
        }
