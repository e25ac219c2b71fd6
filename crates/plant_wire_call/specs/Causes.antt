-- Causes of malformed requests, and steps that may fail with one.
use Rattle.std.specs.Prelude.{◌≡◌, Result, Ok, Err}
use Rattle.plant_wire_body.specs.declared.members.{BodyError.{BodyError}, Unfit.{Unfit}}
use Rattle.plant_wire_call.specs.declared.causes.{CallError.{CallError, TheVariants.{Memory, Because}}, Cause.{Cause}}
use Rattle.plant_wire_call.specs.declared.causes.Cause.TheVariants.{BadBody, MatrixShape, BandsNotRising, NotOrdered}
use Rattle.plant_ration.specs.declared.cell.MatrixFault.TheVariants as fault
use Rattle.plant_wire_body.specs.declared.members.BodyError.TheVariants as body
use Rattle.plant_wire_body.specs.declared.members.Unfit.TheVariants as unfit

abbrev pub body_cause : Unfit → Cause
body_cause unfit.Body = BadBody
body_cause (unfit.Matrix fault.Shape) = MatrixShape
body_cause (unfit.Matrix fault.BandsNotRising) = BandsNotRising
body_cause (unfit.Matrix fault.NotOrdered) = NotOrdered

abbrev pub body_error : BodyError → CallError
body_error body.Memory = Memory
body_error (body.Because unfit) = Because (body_cause unfit)

-- what is read from a body, or the cause for which it is unfit
abbrev pub of_body : {A : Type 0} → Result A Unfit → Result A Cause
of_body (Ok x) = Ok x
of_body (Err unfit) = Err (body_cause unfit)

infixl 10 ◌>>=◌
abbrev pub ◌>>=◌ : {A B : Type 0} → Result A Cause → (A → Result B Cause) → Result B Cause
(Ok x) >>= f = f x
(Err e) >>= f = Err e

-- What a function returned is what the definition gives, unless memory ran out.
abbrev pub Fails : {A : Type 0} → CallError → Result A Cause → Type 0
Fails Memory given = Unit {0}
Fails (Because cause) given = given ≡ Err cause

abbrev pub ReadsAs : {A : Type 0} → Result A CallError → Result A Cause → Type 0
ReadsAs (Ok x) given = given ≡ Ok x
ReadsAs (Err e) given = Fails e given
