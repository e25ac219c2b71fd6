use Rattle.std.proofs.Common.{◌≡◌, ◌+◌, ◌≤◌, ap, refl, sym, subst, subst₂, ◌∙◌, inl, inr, arith}
use Rattle.std.proofs.Math.Logic.{∥∥₁_map}
use Rattle.std.proofs.lemmas.List.Elements.{All-nil}
use Rattle.sqlite.specs.Files.{faults_of, image_of}
use Rattle.sqlite.proofs.{FileLemmas.{stored_used, summed_used}, OpenLemmas.{pool_files}}
use Rattle.sqlite_pool.specs.{Opening.{IsBlankFile}, Stored.{is_summed, stored_size, used_size, IsUnreadable, RecoversAs}}
use Rattle.sqlite_store.proofs.StoreLemmas.{limit_wider}
use Rattle.sqlite_store.specs.{Build.{CanBuild}, Listed.{catalog_rows}, Listing.{listed_from}, Unopened.{image, state_of, IsAsBefore, IsOnTheWay}}
use Rattle.sqlite_trees.proofs.Doubt.{no_doubt}
use Rattle.sqlite_wal.specs.{Files.{outcomes, seen_image}, PageSize.{bytes_of, IsPageSize}, Recovery.{Image}}
use Rattle.plant_store_files.specs.Creations.{HoldNothing, IsAsItWas}
use Rattle.plant_store_files.proofs.Begun.{begun_of, cause_of}
use Rattle.plant_store_files.proofs.creations.new_store.Goals as goal

pub returns-in-Ok-create-clause-made : goal.returns-in-Ok-create-clause-made
returns-in-Ok-create-clause-made g c clean =
    let e = c.in-Ok-create.ensures in
    let made = c.in-Ok.ensures in
    record {
      pages = (e.kept clean).size ∙ made.size;
      fresh = record { sound = e.ready.sound (no_doubt _ clean); numbered = e.numbered; clean = e.ready.clean; unmarked = e.ready.unmarked };
      is_open = e.ready.is_open (no_doubt _ clean);
      empty = (
        λ tree low. ap (λ d. d tree) e.ready.clean ∙ e.empty clean tree low,
        rw clean (catalog_rows _ _ _ ∙ ap (listed_from 0) (e.schema ∙ made.none)),
      );
      sums = ap is_summed ((e.kept clean).size ∙ made.size) ∙ summed_used c.args.size c.args.has_sums;
      guarded = e.guarded clean;
      counts = omega (arith, (pool_files c.in-Ok.fresh.pool).0, ap (λ f. g.D.Disk.faults f.0 + g.D.Disk.faults f.1) made.files, (e.kept clean).counts, e.counted);
    }

pub returns-in-Err-create-clause-left : goal.returns-in-Err-create-clause-left
returns-in-Err-create-clause-left g c clean =
    let files = c.args.files in
    let fresh = c.in-Ok.fresh in
    let made = c.in-Ok.ensures in
    let chosen = c.args.size in
    let want = used_size (bytes_of chosen) c.args.has_sums in
    let size : (state_of fresh).page_size ≡ want = made.size in
    let valid : IsPageSize (stored_size want) =
    subst IsPageSize (sym (stored_used chosen c.args.has_sums))
    (chosen.smallest, chosen.largest, chosen.power, chosen.aligned) in
    let seen : image fresh ≡ image_of g.D.Disk files = ap (λ f. seen_image g.D.Disk f.0 f.1) made.files in
    let back = λ (left : Image) (was : (state_of fresh).may_leave left).
    subst (λ f. outcomes g.D.Disk f.0 f.1 left) made.files ((pool_files fresh.pool).2 left was) in
    let before = λ (left : Image) (was : IsAsBefore fresh left).
    let it : IsAsItWas g.D.Disk want files left = record {
      same = elim was.same [ inl old ↦ inl (back left old) | inr same ↦ inr (subst₂ (λ n i. RecoversAs n i left) size seen same) ];
      unread = λ none. back left (was.unread (subst₂ IsUnreadable (sym size) (sym seen) none));
    } in it in
    let way = λ (left : Image) (on : IsOnTheWay fresh left). begun_of want left valid (rw (size, made.none) at on) in
    let left = c.in-Err-create.ensures.unharmed clean in
    record {
      crash = λ image may. elim (left.crash image may) [ inl was ↦ inl (before image was) | inr on ↦ inr (way image on) ];
      spared = λ none image may. before image (left.guarded (λ begun. none (subst₂ HoldNothing size seen begun)) image may);
      blank = λ blank image may. elim (left.blank (subst₂ IsBlankFile (sym size) (sym seen) blank) image may) [
        | inl was ↦ inl (back image was)
        | inr on ↦ inr (way image on)
      ];
    }

pub returns-in-Err-create-clause-cause : goal.returns-in-Err-create-clause-cause
returns-in-Err-create-clause-cause g c clean =
    let files = c.args.files in
    let fresh = c.in-Ok.fresh in
    let made = c.in-Ok.ensures in
    let e = c.in-Err-create.ensures in
    let size : (state_of fresh).page_size ≡ used_size (bytes_of c.args.size) c.args.has_sums = made.size in
    let seen : image fresh ≡ image_of g.D.Disk files = ap (λ f. seen_image g.D.Disk f.0 f.1) made.files in
    let counts : faults_of g.D.Disk files ≤ (state_of fresh).faults =
    omega (arith, (pool_files fresh.pool).0, ap (λ f. g.D.Disk.faults f.0 + g.D.Disk.faults f.1) made.files) in
    rw c.error_of.ensures.value (cause_of _ _ _ _ _ _ c.in-Err-create.error counts
    (λ blank. record {
      few = rw made.none (omega arith);
      files = inl (subst₂ IsBlankFile (sym size) (sym seen) blank);
      schema = subst CanBuild (sym made.none) (record { distinct = refl; shaped = All-nil _; short = All-nil _ });
    }) (limit_wider _ _ _ _ _ c.in-Err-create.error
    (λ stop. ∥∥₁_map stop (λ why. elim why [ inl full ↦ full | inr deep ↦ absurd (deep.0 (e.back ∙ made.none)) ])) (e.cause clean)))
