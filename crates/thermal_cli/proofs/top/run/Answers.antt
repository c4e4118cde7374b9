use Rattle.std.proofs.Common.{◌≡◌, ◌⊎◌, ◌<◌, ◌≤◌, Option, Some, None, codes, map, string_bytes, refl}
use Rattle.std.specs.Prelude.{IfSome, length}
use Rattle.tb_outside.specs.Limits.{most_input_bytes}
use Rattle.tb_outside.specs.Outside.{Adds}
use Rattle.thermal_cli.specs.declared.status.Status.TheVariants as status
use Rattle.thermal_cli.specs.declared.words.Command.{Command}
use Rattle.thermal_cli.specs.Outcome.{IsInterrupted, Runs, TellsOf}
use Rattle.thermal_cli.specs.Words.{Names, NamesReader}
use Rattle.thermal_cli.proofs.Fronts.{certified_front}
use Rattle.thermal_cli.proofs.Runs.{answered, certificate_refused, certified, demonstrated, fine, no_memory, no_reading, refused, reported, sink_fault, sink_faults_told, source_fault, source_faults_told, solved, too_long, usage_words, width_not_reached}
use Rattle.thermal_cli.proofs.top.run.Goals as goal

known : {A : Type 0} (P : A → Type 0) (o : Option A) → ((x : A) → o ≡ Some x → P x) → IfSome o P
known P None f = tt
known P (Some x) f = f x refl

pub returns : goal.returns
returns g c =
    let w = map string_bytes c.args.words.now in
    let left = g.S.Source.left in
    let f = g.S.Source.faults in
    let holds = g.K.Sink.holds in
    let e = g.K.Sink.faults in
    let a = c.args.source.now in
    let b = c.work-told.new.source in
    let k = c.args.sink.now in
    let l = c.tell.new.sink in
    let s = c.tell.result in
    let r : Runs left f holds e w a b k l s = (c.work-told.result, c.work-told.ensures, c.tell.ensures) in record {
      outcome = r;
      usage = λ p. usage_words left f holds e w a b k l s p r;
      no_reading = λ p. no_reading left f holds e w a b k l s p r;
      source_fault = λ p. source_fault left f holds e w a b k l s p r;
      sink_fault = λ p. sink_fault left f holds e w a b k l s p r;
      source_faults_told = source_faults_told left f holds e w a b k l s r;
      sink_faults_told = sink_faults_told left f holds e w a b k l s r;
      no_memory = λ p. no_memory left f holds e w a b k l s p r;
      refused = λ p. refused left f holds e w a b k l s p r;
      too_long = known (λ bytes. NamesReader w → most_input_bytes < length bytes → IsInterrupted s ⊎ ((s ≡ status.Refused) × Adds (holds k) (holds l) (codes "refused,TooLong\n"))) (left a) (λ bytes t h m. too_long left f holds e w a b k l bytes t s h m r);
      answered = known (λ bytes. (d : Command) → Names w d → length bytes ≤ most_input_bytes → IsInterrupted s ⊎ TellsOf d bytes (holds k) (holds l) s) (left a) (λ bytes t d h m. answered left f holds e w a b k l bytes t s d h m r);
      fine = λ p. fine left f holds e w a b k l s p r;
      certified = λ p q. certified left f holds e w a b k l s p q r;
      reported = λ p q. reported left f holds e w a b k l s p q r;
      certified_front = λ p q. certified_front left f w a b (holds k) (holds l) q (sink_fault left f holds e w a b k l s p r).1;
      solved = λ p o q. solved left f holds e w a b k l s p o q r;
      demonstrated = λ n q. demonstrated left f holds e w a b k l s n q r;
      width_not_reached = λ p. width_not_reached left f holds e w a b k l s p r;
      certificate_refused = λ p. certificate_refused left f holds e w a b k l s p r;
    }
