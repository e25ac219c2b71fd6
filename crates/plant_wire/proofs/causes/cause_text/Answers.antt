use Rattle.std.{specs.Fmt.{digits}, proofs.Common.{refl}}
use Rattle.plant_wire_answer.specs.{Json.{quoted}, Response.{response, status_line}}
use Rattle.plant_wire.specs.Causes.{cause_body, cause_text}
use Rattle.plant_wire.proofs.causes.cause_text.Goals as goal

pub returns-in-HeadSyntax : goal.returns-in-HeadSyntax
unfolding digits quoted response status_line cause_body cause_text
returns-in-HeadSyntax c = rw c.in-HeadSyntax.is refl

pub returns-in-HeadTooLong : goal.returns-in-HeadTooLong
unfolding digits quoted response status_line cause_body cause_text
returns-in-HeadTooLong c = rw c.in-HeadTooLong.is refl

pub returns-in-LengthWrong : goal.returns-in-LengthWrong
unfolding digits quoted response status_line cause_body cause_text
returns-in-LengthWrong c = rw c.in-LengthWrong.is refl

pub returns-in-BodyTooLong : goal.returns-in-BodyTooLong
unfolding digits quoted response status_line cause_body cause_text
returns-in-BodyTooLong c = rw c.in-BodyTooLong.is refl

pub returns-in-Chunked : goal.returns-in-Chunked
unfolding digits quoted response status_line cause_body cause_text
returns-in-Chunked c = rw c.in-Chunked.is refl

pub returns-in-NoRoute : goal.returns-in-NoRoute
unfolding digits quoted response status_line cause_body cause_text
returns-in-NoRoute c = rw c.in-NoRoute.is refl

pub returns-in-BadPerson : goal.returns-in-BadPerson
unfolding digits quoted response status_line cause_body cause_text
returns-in-BadPerson c = rw c.in-BadPerson.is refl

pub returns-in-BadMoment : goal.returns-in-BadMoment
unfolding digits quoted response status_line cause_body cause_text
returns-in-BadMoment c = rw c.in-BadMoment.is refl

pub returns-in-BadPath : goal.returns-in-BadPath
unfolding digits quoted response status_line cause_body cause_text
returns-in-BadPath c = rw c.in-BadPath.is refl

pub returns-in-BadBody : goal.returns-in-BadBody
unfolding digits quoted response status_line cause_body cause_text
returns-in-BadBody c = rw c.in-BadBody.is refl

pub returns-in-MatrixShape : goal.returns-in-MatrixShape
unfolding digits quoted response status_line cause_body cause_text
returns-in-MatrixShape c = rw c.in-MatrixShape.is refl

pub returns-in-BandsNotRising : goal.returns-in-BandsNotRising
unfolding digits quoted response status_line cause_body cause_text
returns-in-BandsNotRising c = rw c.in-BandsNotRising.is refl

pub returns-in-NotOrdered : goal.returns-in-NotOrdered
unfolding digits quoted response status_line cause_body cause_text
returns-in-NotOrdered c = rw c.in-NotOrdered.is refl
