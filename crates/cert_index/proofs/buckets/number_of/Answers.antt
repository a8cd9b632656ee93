use Rattle.cert_index.specs.Buckets.{no_bucket}
use Rattle.cert_index.proofs.BucketLaws.{bucket_there, places_kept}
use Rattle.cert_index.proofs.buckets.number_of.Goals as goal

pub returns-clause-number : goal.returns-clause-number
returns-clause-number c =
    let (found, there, same) = c.in_ok-number.ensures.stored in
    record { within = c.in_ok-number.ensures.within; is = bucket_there c.insert_full.new.self.keys c.in_ok-number.number c.args.bucket found there same }

pub returns-clause-grown : goal.returns-clause-grown
returns-clause-grown c = places_kept no_bucket _ c.args.known.now.keys c.insert_full.new.self.keys c.args.bucket c.in_ok-number.ensures.keys
